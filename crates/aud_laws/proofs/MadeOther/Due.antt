-- What is due to a session over a stream in which only entries that it doesn't need are `other`.
use Rattle.std.proofs.Common.{◌≡◌, ◌&&◌, ◌||◌, not, ℕ, zero, suc, Bool, true, false, List, map, length, filter, Option, Some, None, option_map, refl, sym, ap, ◌∙◌, bytes_eq}
use Rattle.std.specs.List.{All, list_any}
use Rattle.std.specs.FinSet as set
use Rattle.std.proofs.lemmas.Bool.{false≢true, and_parts, and_from, and_right, or_left, false_from_ne_true}
use Rattle.std.proofs.lemmas.List.{length-map}
use Rattle.std.proofs.lemmas.List.Elements.{filter_agree}
use Rattle.std.proofs.lemmas.Option.{none-some}
use Rattle.aud_tap.specs.declared.records.StreamRec.{StreamRec}
use Rattle.aud_tap.specs.declared.records.StreamRec.TheVariants.{Ev, Other}
use Rattle.aud_tap.specs.declared.taps.Tap.{Tap}
use Rattle.aud_tap.specs.RecordFields.{offset_of}
use Rattle.aud_base.proofs.SameText.{same_text}
use Rattle.aud_node.specs.Lists.{is_empty}
use Rattle.aud_node.specs.Recoverable.{is_recoverable}
use Rattle.aud_node.specs.Stream.{Text, entry, positions_after}
use Rattle.aud_rooms.specs.Rooms.{Rooms, own_room, is_addressed, is_for}
use Rattle.aud_rooms.specs.Turns.{Who, Turn, slice_of, IsChain}
use Rattle.aud_rooms.specs.TurnsDue.{rooms_for, is_past_first, is_for_rooms, is_turn_due, turns_due}
use Rattle.aud_parts.specs.MadeOther.{entry_left, opens_in, any_record, ever_held, may_be_for, has_come, needs}
use Rattle.aud_laws.proofs.LeftOut.Logs.{over, all-there}
use Rattle.aud_laws.proofs.MadeOther.Lists.{any-wider}
use Rattle.aud_laws.proofs.MadeOther.Streams.{left-kept, left-other, position-left, entry-left}
use Rattle.aud_laws.proofs.MadeOther.Cursors.{slices-same, rooms-same}
use Rattle.aud_laws.proofs.MadeOther.Rooms.{HeldPass, SomePass, own-pass, rooms-pass, slices-give, opened, own-ever}

-- what holds of each entry holds of the one at a position
pub all-entries : (P : StreamRec → Type 0) (stream : List StreamRec) (p : ℕ) (e : StreamRec) → All P stream → entry stream p ≡ Some e → P e
all-entries P stream zero e all at = absurd (none-some e at)
all-entries P stream (suc i) e all at = all-there P stream i e all at

module _ (taps : List Tap) (pid nsp : Text) (held : Rooms) (in_namespace : any_record (opens_in pid nsp) taps ≡ true) (pass : HeldPass (ever_held taps pid) held) where
  to_held : (b : Bool) (rooms : List Text) → (b || list_any (set.contains held) rooms) ≡ true → (b || list_any (ever_held taps pid) rooms) ≡ true
  to_held true rooms is = refl
  to_held false rooms is = any-wider (set.contains held) (ever_held taps pid) pass rooms is

  -- an entry that is for rooms that the session ever held is needed
  for-needed : (e : StreamRec) → is_for (Some e) nsp held ≡ true → needs taps pid e ≡ true
  for-needed (Other off) is = absurd (false≢true (sym (and_right (is_recoverable (Other off)) false refl) ∙ is))
  for-needed (Ev event) is =
      let spared = not (list_any (set.contains held) event.except) in
      let to = is_empty event.rooms || list_any (set.contains held) event.rooms in
      let (recoverable, addressed) = and_parts (is_recoverable (Ev event)) (is_addressed (Ev event) nsp held) is in
      let (its, rest) = and_parts (bytes_eq event.nsp nsp) (to && spared) addressed in
      let its_own : any_record (opens_in pid event.nsp) taps ≡ true = ap (λ n. any_record (opens_in pid n) taps) (same_text event.nsp nsp its) ∙ in_namespace in
      let to_ever = to_held (is_empty event.rooms) event.rooms (and_parts to spared rest).0 in
      and_from (is_recoverable (Ev event)) (may_be_for taps pid (Ev event) || has_come taps pid event.off) recoverable
      (or_left (may_be_for taps pid (Ev event)) (has_come taps pid event.off)
      (and_from (any_record (opens_in pid event.nsp) taps) (is_empty event.rooms || list_any (ever_held taps pid) event.rooms) its_own to_ever))

module _ (keeps : StreamRec → Bool) (stream : List StreamRec) (taps : List Tap) (who : Who) (kept : All (λ (e : StreamRec). needs taps who.pid e ≡ true → keeps e ≡ true) stream) where
  abbrev other : List StreamRec
  other = map (entry_left keeps) stream

  module _ (in_namespace : any_record (opens_in who.pid who.nsp) taps ≡ true) where
    -- the entry at a position is for rooms that the session ever held where it was
    for-same : (p : ℕ) (o : Option Rooms) → SomePass (ever_held taps who.pid) o → is_for_rooms (entry other p) who.nsp o ≡ is_for_rooms (entry stream p) who.nsp o
    for-same p None pass = refl
    for-same p (Some held) pass = ap (λ at. is_for at who.nsp held) (entry-left keeps stream p) ∙ go (entry stream p) refl
      where
        go : (at : Option StreamRec) → entry stream p ≡ at → is_for (option_map (entry_left keeps) at) who.nsp held ≡ is_for at who.nsp held
        go None none = refl
        go (Some e) there = further (keeps e) refl
          where
            further : (b : Bool) → keeps e ≡ b → is_for (Some (entry_left keeps e)) who.nsp held ≡ is_for (Some e) who.nsp held
            further true is = ap (λ x. is_for (Some x) who.nsp held) (left-kept keeps e is)
            further false out =
                let needed = all-entries (λ (x : StreamRec). needs taps who.pid x ≡ true → keeps x ≡ true) stream p e kept there in
                ap (λ x. is_for (Some x) who.nsp held) (left-other keeps e out)
                ∙ and_right (is_recoverable (Other (offset_of e))) false refl
                ∙ sym (false_from_ne_true (is_for (Some e) who.nsp held) (λ is. false≢true (sym out ∙ needed (for-needed taps who.pid who.nsp held in_namespace pass e is))))

  -- the same is due by a chain
  pub due-left : (ts : List Turn) → IsChain (over stream taps) who ts → turns_due other who (map (slice_of (over other taps)) ts) ≡ turns_due stream who (map (slice_of (over stream taps)) ts)
  due-left ts chain =
      let slices = map (slice_of (over stream taps)) ts in
      let held = own_room who.sid in
      let passed = own-pass (ever_held taps who.pid) who.sid (own-ever stream taps who ts chain) in
      ap (turns_due other who) (slices-same stream other (position-left keeps stream) taps ts)
      ∙ filter_agree (is_turn_due other who slices) (is_turn_due stream who slices)
      (λ p.
      ap (λ r. is_past_first slices p && is_for_rooms (entry other p) who.nsp r) (rooms-same stream other (position-left keeps stream) who.pid held slices p)
      ∙ ap (λ b. is_past_first slices p && b)
      (for-same (opened stream taps who ts chain) p (rooms_for stream who.pid held slices p) (rooms-pass (ever_held taps who.pid) who.pid stream p held slices passed (slices-give stream taps who ts))))
      (positions_after 0 (length other))
      ∙ ap (λ n. filter (is_turn_due stream who slices) (positions_after 0 n)) (length-map stream (entry_left keeps))
