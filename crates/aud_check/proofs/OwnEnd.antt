-- How a turn ends, by the session's own records alone.
use Rattle.std.proofs.lemmas.Bool.Decides.{nat_tests}
use Rattle.std.proofs.Common.{◌≡◌, ◌<◌, ◌≤◌, ◌+◌, ◌-◌, ℕ, zero, suc, Bool, true, false, cond, List, [], ◌∷◌, length, take, drop, min, Option, Some, None, slice_get, get_or, refl, sym, ap, ◌∙◌, nat_eq, nat_le, nat_lt, arith, length-drop}
use Rattle.std.specs.List.{filter}
use Rattle.std.proofs.lemmas.Bool.{and_parts, leb-true}
use Rattle.std.proofs.lemmas.List.{take_min}
use Rattle.std.proofs.lemmas.List.Elements.{All-get_or, filter_passes}
use Rattle.aud_tap.specs.declared.records.NodeRec.{NodeRec}
use Rattle.aud_node.specs.Lists.{between, numbers_from}
use Rattle.aud_node.specs.Stream.{Text}
use Rattle.aud_node.specs.OwnRecords.{record_names, own_numbers}
use Rattle.aud_rooms.specs.TurnPlaces.{is_between, own_between}
use Rattle.aud_rooms.specs.Turns.{Part, Inner, Last, Foreign, End, ByLog, part_of, end_past, turn_end}
use Rattle.aud_rooms.proofs.OwnNumbers.{own_between-is}
use Rattle.aud_base.proofs.Lists.{element_at, between-more, between-none}
use Rattle.aud_check.specs.TurnRefusals.{end_of}

-- what the record with a number is to the turn
abbrev pub part_at : Text → ℕ → Option NodeRec → Part
part_at pid k None = Foreign
part_at pid k (Some rec) = part_of pid k rec

-- what a record of the session makes of the end, by whether it stands last
abbrev pub numbered_end : Part → Bool → Option End → Option End
numbered_end Inner last rest = rest
numbered_end (Last end) true rest = Some end
numbered_end (Last end) false rest = None
numbered_end Foreign last rest = None

-- how turn k ends, of whose records these, before that number, name the session
abbrev pub own_end : Text → ℕ → List NodeRec → ℕ → List ℕ → Option End
own_end pid k log to [] = Some ByLog
own_end pid k log to (n ∷ ns) = numbered_end (part_at pid k (slice_get log n)) (nat_eq (n + 1) to) (own_end pid k log to ns)

-- a record that doesn't name the session stands inside
inner_of_others : (pid : Text) (k : ℕ) (rec : NodeRec) → record_names (Some rec) pid ≡ false → part_of pid k rec ≡ Inner
inner_of_others pid k rec e = grind arith

module _ (pid : Text) (k : ℕ) (log : List NodeRec) (last : ℕ) (within : last ≤ length log) where
  -- the record with this number names the session
  abbrev own : ℕ → Bool
  own number = record_names (slice_get log number) pid

  -- what a record makes of the end after it, by its number or by the records after it
  numbered : (i : ℕ) (part : Part) (rest : Option End) → i < last → numbered_end part (nat_eq (i + 1) last) rest ≡ end_past part (between log (suc i) last) rest
  numbered i part rest h = grind (arith, nat_tests, element_at log (suc i), between-none log (suc i) last, between-more log (suc i) last)

  -- the end from this record on, whether or not it names the session
  step : (a : ℕ) (rec : NodeRec) → slice_get log a ≡ Some rec → a < last → (ns : List ℕ) → own_end pid k log last ns ≡ turn_end pid k (between log (suc a) last)
      → (b : Bool) → record_names (Some rec) pid ≡ b → own_end pid k log last (cond b (a ∷ ns) ns) ≡ turn_end pid k (rec ∷ between log (suc a) last)
  step a rec at h ns ih b names = grind (arith, at, numbered a (part_of pid k rec), inner_of_others pid k rec)

  -- the end from a record on, by those of the session among so many
  ends_from : (count a : ℕ) → a + count ≡ last → own_end pid k log last (filter own (numbers_from a count)) ≡ turn_end pid k (between log a last)
  ends_from zero a e = sym (ap (turn_end pid k) (between-none log a last (omega arith)))
  ends_from (suc count) a e =
      let (rec, at) = element_at log a (omega arith) in
      let ns : List ℕ = filter own (numbers_from (suc a) count) in
      ap (λ o. own_end pid k log last (cond (record_names o pid) (a ∷ ns) ns)) at
      ∙ step a rec at (omega arith) ns (ends_from count (suc a) (omega arith)) (record_names (Some rec) pid) refl
      ∙ sym (ap (turn_end pid k) (between-more log a last rec (omega arith) at))

-- the records up to a number are those up to the end of the log, where that comes first
between-upto : (log : List NodeRec) (from to : ℕ) → between log from to ≡ between log from (min to (length log))
between-upto log from to =
    let same : min (to - from) (length (drop from log)) ≡ min to (length log) - from = omega (arith, length-drop from log) in
    sym (take_min (to - from) (drop from log)) ∙ ap (λ n. take n (drop from log)) same

-- the turn's end by its records, and by those after the first one that name the session
pub turn_end-own : (pid : Text) (k : ℕ) (log : List NodeRec) (from to : ℕ) → from < to → from < length log
    → end_of pid k (between log from to) ≡ own_end pid k log (min to (length log)) (own_between log pid (suc from) (min to (length log)))
turn_end-own pid k log from to some inside =
    let (rec, at) = element_at log from inside in
    let last : ℕ = min to (length log) in
    ap (λ recs. turn_end pid k (drop 1 recs)) (between-more log from to rec some at)
    ∙ ap (turn_end pid k) (between-upto log (suc from) to)
    ∙ sym (ends_from pid k log last (omega arith) (last - suc from) (suc from) (omega arith))
    ∙ sym (ap (own_end pid k log last) (own_between-is log pid (suc from) last (omega arith) (omega arith)))

-- the numbers of own records are below the end
pub below_end : (log : List NodeRec) (pid : Text) (from to : ℕ) (i : ℕ) → i < length (own_between log pid from to) → get_or (own_between log pid from to) i 0 < to
below_end log pid from to i h =
    let number = get_or (own_between log pid from to) i 0 in
    let passes = All-get_or (λ n. is_between from to n ≡ true) (own_between log pid from to) i 0 h (filter_passes (is_between from to) (own_numbers log pid)) in
    let below = leb-true (suc number) to (and_parts (nat_le from number) (nat_lt number to) passes).1 in
    omega (arith, below)
