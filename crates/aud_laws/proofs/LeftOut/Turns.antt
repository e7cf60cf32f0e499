-- The turns of a session in logs from which records of others are left out.
use Rattle.std.proofs.Common.{◌≡◌, ◌<◌, ◌≤◌, ◌-◌, ℕ, zero, suc, Bool, true, List, [], length, filter, Some, slice_get, refl, sym, ap, ◌∙◌, ◌⊎◌, inl, inr, arith}
use Rattle.std.proofs.lemmas.Bool.{cases_lt}
use Rattle.std.proofs.lemmas.Option.{same_Some, slice_get_within}
use Rattle.aud_tap.specs.declared.records.StreamRec.{StreamRec}
use Rattle.aud_tap.specs.declared.records.NodeRec.{NodeRec}
use Rattle.aud_tap.specs.declared.taps.Tap.{Tap}
use Rattle.aud_base.proofs.Lists.{element_at, between-none}
use Rattle.aud_node.specs.Cluster.{node_log}
use Rattle.aud_node.specs.Cursors.{cursor_at}
use Rattle.aud_node.specs.Lists.{between}
use Rattle.aud_node.specs.Stream.{Text}
use Rattle.aud_node.specs.TurnRecords.{pid_of}
use Rattle.aud_node.proofs.RecordLemmas.{between-push}
use Rattle.aud_rooms.specs.Turns.{Who, Turn, slice_of, beginning, End, ByBreak, ByGone, ByLog, turn_end, MayEnd, IsTurn}
use Rattle.aud_parts.specs.LeftOut.{keeps_first}
use Rattle.aud_laws.proofs.LeftOut.Places.{moved, stood, at-moved, at-stood, kept-there, moved-stood, moved-next, moved-rises, moved-all, moved-within, between-moved}
use Rattle.aud_laws.proofs.LeftOut.Cursors.{cursor-moved}
use Rattle.aud_laws.proofs.LeftOut.Rooms.{slice_left}
use Rattle.aud_laws.proofs.LeftOut.Records.{LeavesOthers}
use Rattle.aud_laws.proofs.LeftOut.Ends.{keeps_last, last-kept, end-there, end-back}
use Rattle.aud_laws.proofs.LeftOut.Logs.{over, left_of, Leaves, own-kept, IsPlaced, first-own, placed-own, placed-left}

-- the record that begins a turn names the session
beginning-names : (who : Who) (k : ℕ) → pid_of (beginning who k) ≡ Some who.pid
beginning-names who zero = refl
beginning-names who (suc k) = refl

-- ---- the records after the first one of a turn

module _ (keep : NodeRec → Bool) (log : List NodeRec) where
  -- of two places the one whose new place is less is less
  pub before-moved : (i j : ℕ) → moved keep log i < moved keep log j → i < j
  before-moved i j h = go (cases_lt i j)
    where
      go : (i < j) ⊎ (j ≤ i) → i < j
      go (inl lt) = lt
      go (inr le) = let up = moved-rises keep log j i le in absurd (omega (arith, up))

  -- a place before which the records of a turn stood that ends so
  record EndsAt (pid : Text) (k from to' : ℕ) (end : End) : Type 0 where
    to : ℕ
    moves : moved keep log to ≡ to'
    some : from < to
    within : to ≤ length log
    ends : turn_end pid k (between log (suc from) to) ≡ Some end
    whole : end ≡ ByLog → to ≡ length log

  module _ (pid : Text) (k : ℕ) (leaves : LeavesOthers keep pid) (from : ℕ) (first : NodeRec) (there : slice_get log from ≡ Some first) (kept : keep first ≡ true)
      (to' : ℕ) (within : to' ≤ length (filter keep log)) where
    next : moved keep log (suc from) ≡ suc (moved keep log from)
    next = moved-next keep log from first there kept

    -- where the turn goes on to the end of the log
    ends-whole : (end : End) → end ≡ ByLog → to' ≡ length (filter keep log) → turn_end pid k (between (filter keep log) (suc (moved keep log from)) to') ≡ Some end → EndsAt pid k from to' end
    ends-whole end by all ends =
        let within = slice_get_within log from first there in
        let moves : moved keep log (length log) ≡ to' = moved-all keep log ∙ sym all in
        let left : filter keep (between log (suc from) (length log)) ≡ between (filter keep log) (suc (moved keep log from)) to' =
        sym (between-moved keep log (suc from) (length log) within) ∙ ap (λ n. between (filter keep log) n (moved keep log (length log))) next ∙ ap (between (filter keep log) (suc (moved keep log from))) moves in
        record {
          to = length log;
          moves = moves;
          some = within;
          within = omega arith;
          ends = end-back pid k keep leaves (between log (suc from) (length log)) end (λ more. absurd (more by)) (ap (turn_end pid k) left ∙ ends);
          whole = λ _. refl;
        }

    -- where a record ends it
    ends-before : (end : End) → (end ≡ ByLog → ⊥) → (last : ℕ) → to' ≡ suc last → suc (moved keep log from) ≤ last → turn_end pid k (between (filter keep log) (suc (moved keep log from)) to') ≡ Some end
        → EndsAt pid k from to' end
    ends-before end more last is after ends =
        let (rec, at') = element_at (filter keep log) last (omega (arith, is)) in
        let at = at-stood keep log last rec at' in
        let passes = kept-there keep log last rec at' in
        let back = moved-stood keep log last rec at' in
        let later : from < stood keep log last = before-moved from (stood keep log last) (omega (arith, back)) in
        let one = moved-next keep log (stood keep log last) rec at passes in
        let moves : moved keep log (suc (stood keep log last)) ≡ to' = omega (arith, one, back, is) in
        let left : filter keep (between log (suc from) (suc (stood keep log last))) ≡ between (filter keep log) (suc (moved keep log from)) to' =
        sym (between-moved keep log (suc from) (suc (stood keep log last)) (omega (arith, later)))
        ∙ ap (λ n. between (filter keep log) n (moved keep log (suc (stood keep log last)))) next
        ∙ ap (between (filter keep log) (suc (moved keep log from))) moves in
        let lasts : keeps_last keep (between log (suc from) (suc (stood keep log last))) ≡ true =
        ap (keeps_last keep) (between-push log (suc from) (stood keep log last) rec later at) ∙ last-kept keep (between log (suc from) (stood keep log last)) rec passes in
        record {
          to = suc (stood keep log last);
          moves = moves;
          some = omega (arith, later);
          within = slice_get_within log (stood keep log last) rec at;
          ends = end-back pid k keep leaves (between log (suc from) (suc (stood keep log last))) end (λ _. lasts) (ap (turn_end pid k) left ∙ ends);
          whole = λ by. absurd (more by);
        }

    -- a turn that ends otherwise than its log has a record that ends it
    some-after : (end : End) → (end ≡ ByLog → ⊥) → turn_end pid k (between (filter keep log) (suc (moved keep log from)) to') ≡ Some end → suc (moved keep log from) < to'
    some-after end more ends = go (cases_lt (suc (moved keep log from)) to')
      where
        go : (suc (moved keep log from) < to') ⊎ (to' ≤ suc (moved keep log from)) → suc (moved keep log from) < to'
        go (inl lt) = lt
        go (inr le) = absurd (more (sym (same_Some ByLog end (sym (ap (turn_end pid k) (between-none (filter keep log) (suc (moved keep log from)) to' le)) ∙ ends))))

    ends-some : (end : End) → (end ≡ ByLog → ⊥) → turn_end pid k (between (filter keep log) (suc (moved keep log from)) to') ≡ Some end → EndsAt pid k from to' end
    ends-some end more ends =
        let past = some-after end more ends in
        let is : to' ≡ suc (to' - 1) = omega (arith, past) in
        ends-before end more (to' - 1) is (omega (arith, past)) ends

    -- where they ended
    ends-at : (end : End) → (end ≡ ByLog → to' ≡ length (filter keep log)) → turn_end pid k (between (filter keep log) (suc (moved keep log from)) to') ≡ Some end → EndsAt pid k from to' end
    ends-at ByBreak all ends = ends-some ByBreak (λ by. (let e : ByBreak ≡ ByLog = by in cc)) ends
    ends-at ByGone all ends = ends-some ByGone (λ by. (let e : ByGone ≡ ByLog = by in cc)) ends
    ends-at ByLog all ends = ends-whole ByLog refl (all refl) ends

-- ---- turns

module _ (stream : List StreamRec) (taps : List Tap) (keep : NodeRec → Bool) (keeps : Tap → Bool) where
  -- the turn, and the one that it is among the taps that are left
  pub record IsMoved (t t' : Turn) : Type 0 where
    pub node : IsPlaced stream taps keep keeps t.node t'.node
    pub from_is : moved keep (node_log (over stream taps) t.node) t.from ≡ t'.from
    pub next_is : moved keep (node_log (over stream taps) t.node) (suc t.from) ≡ suc t'.from
    pub to_is : moved keep (node_log (over stream taps) t.node) t.to ≡ t'.to
    pub some : t.from < t.to
    pub first : keeps_first keep (node_log (over stream taps) t.node) ≡ true

  module _ (who : Who) (leaves : Leaves stream taps keep keeps who.pid) where
    -- its slice is what is left of the slice that it was
    pub moved-slice : (t t' : Turn) → IsMoved t t' → slice_of (over stream (left_of keep keeps taps)) t' ≡ slice_left keep (slice_of (over stream taps) t)
    moved-slice t t' is =
        let log = node_log (over stream taps) t.node in
        let place = is.node in
        let cursors = cursor-moved stream who.pid keep leaves.others log is.first in
        let low = ap (λ l. cursor_at stream l (suc t'.from)) place.log ∙ ap (cursor_at stream (filter keep log)) (sym is.next_is) ∙ cursors (suc t.from) in
        let high = ap (λ l. cursor_at stream l t'.to) place.log ∙ ap (cursor_at stream (filter keep log)) (sym is.to_is) ∙ cursors t.to in
        let some = is.some in
        let recs =
        ap (λ l. between l t'.from t'.to) place.log
        ∙ ap (λ n. between (filter keep log) n t'.to) (sym is.from_is)
        ∙ ap (between (filter keep log) (moved keep log t.from)) (sym is.to_is)
        ∙ between-moved keep log t.from t.to (omega (arith, some)) in
        λ i. record { low = low i; high = high i; recs = recs i }

    -- a turn is one among the taps that are left
    pub turn-there : (k : ℕ) (t : Turn) (later later' : List Turn) → (later ≡ [] → later' ≡ []) → IsTurn (over stream taps) who k t later
        → (t' : Turn) × IsTurn (over stream (left_of keep keeps taps)) who k t' later' × IsMoved t t'
    turn-there k t later later' none is = (t', is', moves)
      where
        log : List NodeRec
        log = node_log (over stream taps) t.node

        kept : keep (beginning who k) ≡ true
        kept = own-kept keep who.pid leaves.others (beginning who k) (beginning-names who k)

        place : IsPlaced stream taps keep keeps t.node (moved keeps taps t.node)
        place = placed-own stream taps keep keeps who.pid leaves t.node t.from (beginning who k) is.begins (beginning-names who k)

        t' : Turn
        t' = record { node = moved keeps taps t.node; from = moved keep log t.from; to = moved keep log t.to }

        next : moved keep log (suc t.from) ≡ suc (moved keep log t.from)
        next = moved-next keep log t.from (beginning who k) is.begins kept

        moves : IsMoved t t'
        moves = record { node = place; from_is = refl; next_is = next; to_is = refl; some = is.some; first = first-own stream taps keep keeps who.pid leaves t.node t.from (beginning who k) is.begins (beginning-names who k) }

        count : length (node_log (over stream (left_of keep keeps taps)) t'.node) ≡ length (filter keep log)
        count = ap length place.log

        after : between (node_log (over stream (left_of keep keeps taps)) t'.node) (suc t'.from) t'.to ≡ filter keep (between log (suc t.from) t.to)
        after =
            ap (λ l. between l (suc t'.from) t'.to) place.log
            ∙ ap (λ n. between (filter keep log) n t'.to) (sym next)
            ∙ between-moved keep log (suc t.from) t.to is.some

        may : (end : End) → MayEnd (over stream taps) t later end → MayEnd (over stream (left_of keep keeps taps)) t' later' end
        may ByBreak h = tt
        may ByGone h = none h
        may ByLog h = (none h.0, ap (moved keep log) h.1 ∙ moved-all keep log ∙ sym count)

        is' : IsTurn (over stream (left_of keep keeps taps)) who k t' later'
        is' = record {
          within = (let least = moved-within keep log t.to in omega (arith, count, least));
          some = (let up = moved-rises keep log (suc t.from) t.to is.some in omega (arith, up, next));
          begins = ap (λ l. slice_get l t'.from) place.log ∙ at-moved keep log t.from (beginning who k) is.begins kept;
          end = is.end;
          ends = ap (turn_end who.pid k) after ∙ end-there who.pid k keep leaves.others (between log (suc t.from) t.to) is.end is.ends;
          may_end = may is.end is.may_end;
        }

    -- and was one before
    pub turn-back : (k : ℕ) (t' : Turn) (later later' : List Turn) → (later' ≡ [] → later ≡ []) → IsTurn (over stream (left_of keep keeps taps)) who k t' later'
        → (t : Turn) × IsTurn (over stream taps) who k t later × IsMoved t t'
    turn-back k t' later later' none is = (t, was, moves)
      where
        node : ℕ
        node = stood keeps taps t'.node

        place : IsPlaced stream taps keep keeps node t'.node
        place = placed-left stream taps keep keeps t'.node t'.from (beginning who k) is.begins

        log : List NodeRec
        log = node_log (over stream taps) node

        at' : slice_get (filter keep log) t'.from ≡ Some (beginning who k)
        at' = sym (ap (λ l. slice_get l t'.from) place.log) ∙ is.begins

        from : ℕ
        from = stood keep log t'.from

        from-is : moved keep log from ≡ t'.from
        from-is = moved-stood keep log t'.from (beginning who k) at'

        at : slice_get log from ≡ Some (beginning who k)
        at = at-stood keep log t'.from (beginning who k) at'

        kept : keep (beginning who k) ≡ true
        kept = kept-there keep log t'.from (beginning who k) at'

        count : length (node_log (over stream (left_of keep keeps taps)) t'.node) ≡ length (filter keep log)
        count = ap length place.log

        whole : (end : End) → MayEnd (over stream (left_of keep keeps taps)) t' later' end → end ≡ ByLog → t'.to ≡ length (filter keep log)
        whole ByBreak h e = absurd (let no : ByBreak ≡ ByLog = e in cc)
        whole ByGone h e = absurd (let no : ByGone ≡ ByLog = e in cc)
        whole ByLog h e = h.1 ∙ count

        ends' : turn_end who.pid k (between (filter keep log) (suc (moved keep log from)) t'.to) ≡ Some is.end
        ends' = ap (λ n. turn_end who.pid k (between (filter keep log) (suc n) t'.to)) from-is ∙ sym (ap (λ l. turn_end who.pid k (between l (suc t'.from) t'.to)) place.log) ∙ is.ends

        r : EndsAt keep log who.pid k from t'.to is.end
        r =
            let within = is.within in
            ends-at keep log who.pid k leaves.others from (beginning who k) at kept t'.to (omega (arith, within, count)) is.end (whole is.end is.may_end) ends'

        t : Turn
        t = record { node = node; from = from; to = r.to }

        moves : IsMoved t t'
        moves = record {
          node = place;
          from_is = from-is;
          next_is = moved-next keep log from (beginning who k) at kept ∙ ap suc from-is;
          to_is = r.moves;
          some = r.some;
          first = first-own stream taps keep keeps who.pid leaves node from (beginning who k) at (beginning-names who k);
        }

        may : (end : End) → MayEnd (over stream (left_of keep keeps taps)) t' later' end → (end ≡ ByLog → r.to ≡ length log) → MayEnd (over stream taps) t later end
        may ByBreak h all = tt
        may ByGone h all = none h
        may ByLog h all = (none h.0, all refl)

        was : IsTurn (over stream taps) who k t later
        was = record { within = r.within; some = r.some; begins = at; end = is.end; ends = r.ends; may_end = may is.end is.may_end r.whole }
