-- What is due to a session by turns from which records of other sessions are left out.
use Rattle.std.proofs.Common.{◌≡◌, ◌≤◌, ◌&&◌, ℕ, Bool, true, false, cond, List, [], ◌∷◌, map, filter, length, Some, nat_le, refl, sym, ap, ◌∙◌, arith}
use Rattle.std.proofs.lemmas.Bool.Decides.{nat_tests}
use Rattle.std.proofs.lemmas.Bool.{le-leb}
use Rattle.std.proofs.lemmas.List.Elements.{filter_agree}
use Rattle.aud_tap.specs.declared.records.StreamRec.{StreamRec}
use Rattle.aud_tap.specs.declared.records.NodeRec.{NodeRec}
use Rattle.aud_node.specs.Cursors.{later_cursor}
use Rattle.aud_node.specs.Stream.{Text, entry, positions_after}
use Rattle.aud_rooms.specs.Rooms.{Rooms, own_room, rooms_after}
use Rattle.aud_rooms.specs.Turns.{Who, Slice}
use Rattle.aud_rooms.specs.TurnsDue.{rooms_at_end, rooms_at_reach, rooms_for, is_past_first, is_for_rooms, is_turn_due, turns_due}
use Rattle.aud_laws.proofs.LeftOut.Records.{IsOfAnother, LeavesOthers, another-later}

-- a record of another session leaves the rooms
another-rooms : (pid : Text) (rec : NodeRec) → IsOfAnother pid rec → (held : Rooms) → rooms_after pid held rec ≡ held
another-rooms pid rec is held = let names = is.names in let differs = is.differs in grind (arith, names, differs)

-- the cursor doesn't go back
forward : (stream : List StreamRec) (rec : NodeRec) (cursor : ℕ) → cursor ≤ later_cursor stream rec cursor
forward stream rec cursor = grind (arith, nat_tests)

-- the slice with its records that are kept
abbrev pub slice_left : (NodeRec → Bool) → Slice → Slice
slice_left keep slice = record { low = slice.low; high = slice.high; recs = filter keep slice.recs }

module _ (stream : List StreamRec) (pid : Text) (p : ℕ) where
  -- where the cursor has reached the position, the rooms are those held
  reached : (cursor : ℕ) (held : Rooms) (recs : List NodeRec) → p ≤ cursor → rooms_at_reach stream pid p cursor held recs ≡ held
  reached cursor held [] h = refl
  reached cursor held (rec ∷ recs) h =
      let up = forward stream rec cursor in
      let past : p ≤ later_cursor stream rec cursor = omega (arith, up) in
      ap (λ b. cond b held (rooms_at_reach stream pid p (later_cursor stream rec cursor) (rooms_after pid held rec) recs)) (le-leb p (later_cursor stream rec cursor) past)

module _ (stream : List StreamRec) (pid : Text) (keep : NodeRec → Bool) (leaves : LeavesOthers keep pid) where
  -- the rooms at the end
  end-left : (held : Rooms) (recs : List NodeRec) → rooms_at_end pid held (filter keep recs) ≡ rooms_at_end pid held recs
  end-left held [] = refl
  end-left held (rec ∷ recs) = go (keep rec) refl (λ h. end-left h recs)
    where
      go : (b : Bool) → keep rec ≡ b → ((h : Rooms) → rooms_at_end pid h (filter keep recs) ≡ rooms_at_end pid h recs)
          → rooms_at_end pid held (cond b (rec ∷ filter keep recs) (filter keep recs)) ≡ rooms_at_end pid (rooms_after pid held rec) recs
      go true is ih = ih (rooms_after pid held rec)
      go false out ih = ih held ∙ ap (λ h. rooms_at_end pid h recs) (sym (another-rooms pid rec (leaves rec out) held))

  -- the rooms where the cursor reaches a position
  reach-left : (p cursor : ℕ) (held : Rooms) (recs : List NodeRec) → rooms_at_reach stream pid p cursor held (filter keep recs) ≡ rooms_at_reach stream pid p cursor held recs
  reach-left p cursor held [] = refl
  reach-left p cursor held (rec ∷ recs) = go (keep rec) refl (λ c h. reach-left p c h recs)
    where
      later : ℕ
      later = later_cursor stream rec cursor

      go : (b : Bool) → keep rec ≡ b → ((c : ℕ) (h : Rooms) → rooms_at_reach stream pid p c h (filter keep recs) ≡ rooms_at_reach stream pid p c h recs)
          → rooms_at_reach stream pid p cursor held (cond b (rec ∷ filter keep recs) (filter keep recs))
          ≡ cond (nat_le p (later_cursor stream rec cursor)) held (rooms_at_reach stream pid p (later_cursor stream rec cursor) (rooms_after pid held rec) recs)
      go true is ih = ap (λ r. cond (nat_le p later) held r) (ih later (rooms_after pid held rec))
      go false out ih =
          ih cursor held
          ∙ further (nat_le p cursor) refl
          ∙ ap (λ h. cond (nat_le p cursor) held (rooms_at_reach stream pid p cursor h recs)) (sym (another-rooms pid rec (leaves rec out) held))
          ∙ ap (λ c. cond (nat_le p c) held (rooms_at_reach stream pid p c (rooms_after pid held rec) recs)) (sym (another-later pid rec (leaves rec out) stream cursor))
        where
          further : (b : Bool) → nat_le p cursor ≡ b → rooms_at_reach stream pid p cursor held recs ≡ cond b held (rooms_at_reach stream pid p cursor held recs)
          further true is = reached stream pid p cursor held recs (grind (arith, nat_tests, is))
          further false is = refl

  -- the rooms of a position by slices
  rooms-left : (held : Rooms) (slices : List Slice) (p : ℕ) → rooms_for stream pid held (map (slice_left keep) slices) p ≡ rooms_for stream pid held slices p
  rooms-left held [] p = refl
  rooms-left held (slice ∷ later) p =
      ap (λ r. cond (nat_le p slice.high) (Some (cond (nat_le p slice.low) held r)) (rooms_for stream pid (rooms_at_end pid held (filter keep slice.recs)) (map (slice_left keep) later) p)) (reach-left p slice.low held slice.recs)
      ∙ ap (λ h. cond (nat_le p slice.high) (Some (cond (nat_le p slice.low) held (rooms_at_reach stream pid p slice.low held slice.recs))) (rooms_for stream pid h (map (slice_left keep) later) p)) (end-left held slice.recs)
      ∙ ap (λ r. cond (nat_le p slice.high) (Some (cond (nat_le p slice.low) held (rooms_at_reach stream pid p slice.low held slice.recs))) r) (rooms-left (rooms_at_end pid held slice.recs) later p)

-- what is past the first slice's low
past-left : (keep : NodeRec → Bool) (slices : List Slice) (p : ℕ) → is_past_first (map (slice_left keep) slices) p ≡ is_past_first slices p
past-left keep [] p = refl
past-left keep (slice ∷ later) p = refl

-- what is due by slices
pub due-left : (stream : List StreamRec) (who : Who) (keep : NodeRec → Bool) → LeavesOthers keep who.pid → (slices : List Slice) → turns_due stream who (map (slice_left keep) slices) ≡ turns_due stream who slices
due-left stream who keep leaves slices =
    filter_agree (is_turn_due stream who (map (slice_left keep) slices)) (is_turn_due stream who slices)
    (λ p.
    ap (λ b. b && is_for_rooms (entry stream p) who.nsp (rooms_for stream who.pid (own_room who.sid) (map (slice_left keep) slices) p)) (past-left keep slices p)
    ∙ ap (λ r. is_past_first slices p && is_for_rooms (entry stream p) who.nsp r) (rooms-left stream who.pid keep leaves (own_room who.sid) slices p))
    (positions_after 0 (length stream))
