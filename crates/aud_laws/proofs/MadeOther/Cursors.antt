-- Cursors, orders and rooms over streams in which each offset stands at the same position.
use Rattle.std.proofs.Common.{◌≡◌, ℕ, zero, suc, cond, List, [], ◌∷◌, map, Option, Some, None, is_some, nat_le, slice_get, length, refl, ap, ◌∙◌}
use Rattle.std.specs.List.{list_all}
use Rattle.aud_tap.specs.declared.records.StreamRec.{StreamRec}
use Rattle.aud_tap.specs.declared.records.NodeRec.{NodeRec}
use Rattle.aud_tap.specs.declared.records.NodeRec.TheVariants.{Start, Take, Takes}
use Rattle.aud_tap.specs.declared.taps.Tap.{Tap}
use Rattle.aud_node.specs.Cluster.{node_log}
use Rattle.aud_node.specs.Cursors.{is_position, position_if_past, position_or, later_cursor, next_cursor, cursor_past, cursor_at}
use Rattle.aud_node.specs.Lists.{numbers_from, between}
use Rattle.aud_node.specs.Ordered.{is_in_order, is_some_in_order, is_ordered}
use Rattle.aud_node.specs.Stream.{Text, position}
use Rattle.aud_rooms.specs.Rooms.{Rooms, rooms_after}
use Rattle.aud_rooms.specs.Turns.{Turn, Slice, slice_of}
use Rattle.aud_rooms.specs.TurnsDue.{rooms_at_end, rooms_at_reach, rooms_for}
use Rattle.aud_laws.proofs.LeftOut.Logs.{over}

module _ (stream other : List StreamRec) (place : (off : Text) → position other off ≡ position stream off) where
  -- a record moves the cursor as it did
  later-same : (rec : NodeRec) (cursor : ℕ) → later_cursor other rec cursor ≡ later_cursor stream rec cursor
  later-same (Take off) cursor = ap (λ o. cond (is_position o (suc cursor)) (suc cursor) cursor) (place off)
  later-same (Takes off) cursor = ap (λ o. position_or (position_if_past o cursor) cursor) (place off)
  later-same _ cursor = refl

  next-same : (number : ℕ) (rec : NodeRec) (cursor : ℕ) → next_cursor other number rec cursor ≡ next_cursor stream number rec cursor
  next-same zero (Start None) cursor = refl
  next-same zero (Start (Some off)) cursor = ap (λ o. position_or o cursor) (place off)
  next-same number rec cursor = later-same rec cursor

  past-same : (number : ℕ) (o : Option NodeRec) (one two : ℕ) → one ≡ two → cursor_past other number o one ≡ cursor_past stream number o two
  past-same number None one two same = same
  past-same number (Some rec) one two same = next-same number rec one ∙ ap (next_cursor stream number rec) same

  -- the cursor stands where it stood
  pub cursor-same : (log : List NodeRec) (count : ℕ) → cursor_at other log count ≡ cursor_at stream log count
  cursor-same log zero = refl
  cursor-same log (suc count) = past-same count (slice_get log count) (cursor_at other log count) (cursor_at stream log count) (cursor-same log count)

  -- a record is in order where it was
  in_order-same : (number cursor : ℕ) (rec : NodeRec) → is_in_order other number cursor rec ≡ is_in_order stream number cursor rec
  in_order-same zero cursor (Start None) = refl
  in_order-same zero cursor (Start (Some off)) = ap is_some (place off)
  in_order-same zero cursor _ = refl
  in_order-same (suc number) cursor (Take off) = ap (λ o. is_position o (suc cursor)) (place off)
  in_order-same (suc number) cursor (Takes off) = ap (λ o. is_some (position_if_past o cursor)) (place off)
  in_order-same (suc number) cursor _ = refl

  some-same : (number one two : ℕ) (o : Option NodeRec) → one ≡ two → is_some_in_order other number one o ≡ is_some_in_order stream number two o
  some-same number one two None same = refl
  some-same number one two (Some rec) same = in_order-same number one rec ∙ ap (λ cursor. is_in_order stream number cursor rec) same

  all-same : (log : List NodeRec) (numbers : List ℕ)
      → list_all (λ number. is_some_in_order other number (cursor_at other log number) (slice_get log number)) numbers
      ≡ list_all (λ number. is_some_in_order stream number (cursor_at stream log number) (slice_get log number)) numbers
  all-same log [] = refl
  all-same log (number ∷ numbers) =
      let here = some-same number (cursor_at other log number) (cursor_at stream log number) (slice_get log number) (cursor-same log number) in
      rw (here, all-same log numbers) refl

  -- and so is a log
  pub ordered-same : (log : List NodeRec) → is_ordered other log ≡ is_ordered stream log
  ordered-same [] = refl
  ordered-same (first ∷ others) = all-same (first ∷ others) (numbers_from 0 (length (first ∷ others)))

  -- the records of turns have the cursors that they had
  slice-same : (taps : List Tap) (t : Turn) → slice_of (over other taps) t ≡ slice_of (over stream taps) t
  slice-same taps t =
      let log : List NodeRec = node_log (over stream taps) t.node in
      λ i. record { low = cursor-same log (suc t.from) i; high = cursor-same log t.to i; recs = between log t.from t.to }

  pub slices-same : (taps : List Tap) (ts : List Turn) → map (slice_of (over other taps)) ts ≡ map (slice_of (over stream taps)) ts
  slices-same taps [] = refl
  slices-same taps (t ∷ ts) =
      ap (λ s. s ∷ map (slice_of (over other taps)) ts) (slice-same taps t) ∙ ap (λ ss. slice_of (over stream taps) t ∷ ss) (slices-same taps ts)

  -- the rooms at the first record after which the cursor reaches a position
  reach-same : (pid : Text) (p cursor : ℕ) (held : Rooms) (recs : List NodeRec) → rooms_at_reach other pid p cursor held recs ≡ rooms_at_reach stream pid p cursor held recs
  reach-same pid p cursor held [] = refl
  reach-same pid p cursor held (rec ∷ recs) =
      ap (λ c. cond (nat_le p c) held (rooms_at_reach other pid p c (rooms_after pid held rec) recs)) (later-same rec cursor)
      ∙ ap (λ r. cond (nat_le p (later_cursor stream rec cursor)) held r) (reach-same pid p (later_cursor stream rec cursor) (rooms_after pid held rec) recs)

  -- a position has the rooms that it had
  pub rooms-same : (pid : Text) (held : Rooms) (slices : List Slice) (p : ℕ) → rooms_for other pid held slices p ≡ rooms_for stream pid held slices p
  rooms-same pid held [] p = refl
  rooms-same pid held (slice ∷ later) p =
      ap (λ r. cond (nat_le p slice.high) (Some (cond (nat_le p slice.low) held r)) (rooms_for other pid (rooms_at_end pid held slice.recs) later p)) (reach-same pid p slice.low held slice.recs)
      ∙ ap (λ r. cond (nat_le p slice.high) (Some (cond (nat_le p slice.low) held (rooms_at_reach stream pid p slice.low held slice.recs))) r) (rooms-same pid (rooms_at_end pid held slice.recs) later p)
