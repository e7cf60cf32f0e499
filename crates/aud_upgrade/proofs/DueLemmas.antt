-- What is due by turns in taps that differ in how their nodes' takes are written alone.
use Rattle.std.proofs.Common.{◌≡◌, ◌≤◌, ◌&&◌, ℕ, suc, Bool, true, false, cond, List, [], ◌∷◌, length, map, Option, Some, None, nat_le, nat_lt, refl, sym, ap, ◌∙◌, arith, true≢false}
use Rattle.std.specs.List.{filter}
use Rattle.std.proofs.lemmas.Bool.Decides.{nat_tests}
use Rattle.aud_tap.specs.declared.records.StreamRec.{StreamRec}
use Rattle.aud_tap.specs.declared.records.NodeRec.{NodeRec}
use Rattle.aud_tap.specs.declared.records.NodeRec.TheVariants.{Start, Take, Takes, Opened, Join, Leave, Broke, Back, Gone}
use Rattle.aud_tap.specs.declared.taps.Tap.{Tap}
use Rattle.aud_node.specs.Stream.{Text, position, entry, positions_after}
use Rattle.aud_node.specs.Cursors.{is_position, position_if_past, position_or, later_cursor, next_cursor}
use Rattle.aud_rooms.specs.Rooms.{Rooms, own_room, rooms_after}
use Rattle.aud_rooms.specs.Turns.{Who, Turn, Slice, slice_of}
use Rattle.aud_rooms.specs.TurnsDue.{rooms_at_end, rooms_at_reach, rooms_for, is_past_first, is_for_rooms, is_turn_due, turns_due}
use Rattle.aud_upgrade.specs.Private.Told.{Told, is_taking, told, told_at}
use Rattle.aud_upgrade.specs.Private.Same.{over, AreSameSlices, AreAllSame}

-- a record that takes entries leaves the rooms
taking-rooms : (pid : Text) (held : Rooms) (rec : NodeRec) → is_taking rec ≡ true → rooms_after pid held rec ≡ held
taking-rooms pid held (Take off) e = refl
taking-rooms pid held (Takes off) e = refl
taking-rooms pid held (Start off) e = refl
taking-rooms pid held (Opened other sid nsp) e = refl
taking-rooms pid held (Join other room) e = absurd (true≢false (sym e))
taking-rooms pid held (Leave other room) e = absurd (true≢false (sym e))
taking-rooms pid held (Broke other turn) e = refl
taking-rooms pid held (Back other turn) e = refl
taking-rooms pid held (Gone other) e = refl

module _ (stream : List StreamRec) where
  -- a record that takes nothing leaves the cursor
  quiet-cursor : (rec : NodeRec) (cursor : ℕ) → is_taking rec ≡ false → later_cursor stream rec cursor ≡ cursor
  quiet-cursor (Take off) cursor e = absurd (true≢false e)
  quiet-cursor (Takes off) cursor e = absurd (true≢false e)
  quiet-cursor (Start off) cursor e = refl
  quiet-cursor (Opened other sid nsp) cursor e = refl
  quiet-cursor (Join other room) cursor e = refl
  quiet-cursor (Leave other room) cursor e = refl
  quiet-cursor (Broke other turn) cursor e = refl
  quiet-cursor (Back other turn) cursor e = refl
  quiet-cursor (Gone other) cursor e = refl

  later-is : (rec : NodeRec) (cursor : ℕ) → next_cursor stream 1 rec cursor ≡ later_cursor stream rec cursor
  later-is (Start off) cursor = refl
  later-is (Take off) cursor = refl
  later-is (Takes off) cursor = refl
  later-is (Opened other sid nsp) cursor = refl
  later-is (Join other room) cursor = refl
  later-is (Leave other room) cursor = refl
  later-is (Broke other turn) cursor = refl
  later-is (Back other turn) cursor = refl
  later-is (Gone other) cursor = refl

  -- the cursor doesn't go back
  forward : (rec : NodeRec) (cursor : ℕ) → cursor ≤ later_cursor stream rec cursor
  forward (Take off) cursor = elim (is_position (position stream off) (suc cursor)) as (λ b. cursor ≤ cond b (suc cursor) cursor) [ true ↦ omega arith | false ↦ omega arith ]
  forward (Takes off) cursor = go (position stream off)
    where
      go : (p : Option ℕ) → cursor ≤ position_or (position_if_past p cursor) cursor
      go None = omega arith
      go (Some q) = further (nat_lt cursor q) refl
        where
          further : (b : Bool) → nat_lt cursor q ≡ b → cursor ≤ position_or (cond b (Some q) None) cursor
          further true is = grind (arith, nat_tests, is)
          further false is = omega arith
  forward (Start off) cursor = omega arith
  forward (Opened other sid nsp) cursor = omega arith
  forward (Join other room) cursor = omega arith
  forward (Leave other room) cursor = omega arith
  forward (Broke other turn) cursor = omega arith
  forward (Back other turn) cursor = omega arith
  forward (Gone other) cursor = omega arith

-- the rooms after what is told
abbrev rooms_told : Text → Rooms → List Told → Rooms
rooms_told pid held [] = held
rooms_told pid held (t ∷ ts) = rooms_told pid (rooms_after pid held t.rec) ts

-- the rooms where the cursor reaches the position, by what is told
abbrev reach_told : Text → ℕ → Rooms → List Told → Rooms
reach_told pid p held [] = held
reach_told pid p held (t ∷ ts) = cond (nat_le p t.cursor) held (reach_told pid p (rooms_after pid held t.rec) ts)

module _ (stream : List StreamRec) (pid : Text) where
  end-told : (number cursor : ℕ) (held : Rooms) (recs : List NodeRec) → rooms_at_end pid held recs ≡ rooms_told pid held (told stream number cursor recs)
  end-told number cursor held [] = refl
  end-told number cursor held (rec ∷ recs) = go (is_taking rec) refl (λ held. end-told 1 (next_cursor stream number rec cursor) held recs)
    where
      rest : List Told
      rest = told stream 1 (next_cursor stream number rec cursor) recs

      go : (b : Bool) → is_taking rec ≡ b → ((held : Rooms) → rooms_at_end pid held recs ≡ rooms_told pid held rest)
          → rooms_at_end pid (rooms_after pid held rec) recs ≡ rooms_told pid held (cond b rest (told_at stream number cursor rec ∷ rest))
      go true taking ih = ap (λ h. rooms_at_end pid h recs) (taking-rooms pid held rec taking) ∙ ih held
      go false quiet ih = ih (rooms_after pid held rec)

  -- where the cursor is past the position the rooms are those held
  reached : (p cursor : ℕ) (held : Rooms) (recs : List NodeRec) → p ≤ cursor → reach_told pid p held (told stream 1 cursor recs) ≡ held
  reached p cursor held [] h = refl
  reached p cursor held (rec ∷ recs) h = go (is_taking rec) (reached p (next_cursor stream 1 rec cursor) held recs past)
    where
      past : p ≤ next_cursor stream 1 rec cursor
      past = let f = forward stream rec cursor in let e = later-is stream rec cursor in omega (arith, f, e, h)

      rest : List Told
      rest = told stream 1 (next_cursor stream 1 rec cursor) recs

      go : (b : Bool) → reach_told pid p held rest ≡ held → reach_told pid p held (cond b rest (told_at stream 1 cursor rec ∷ rest)) ≡ held
      go true ih = ih
      go false ih = let yes' : nat_le p (next_cursor stream 1 rec cursor) ≡ true = grind (arith, nat_tests, past) in rw yes' refl

  reach-told : (p cursor : ℕ) (held : Rooms) (recs : List NodeRec) → rooms_at_reach stream pid p cursor held recs ≡ reach_told pid p held (told stream 1 cursor recs)
  reach-told p cursor held [] = refl
  reach-told p cursor held (rec ∷ recs) = go (is_taking rec) refl (nat_le p after) refl (λ held. reach-told p after held recs)
    where
      after : ℕ
      after = later_cursor stream rec cursor

      rest : List Told
      rest = told stream 1 after recs

      next : told stream 1 (next_cursor stream 1 rec cursor) recs ≡ rest
      next = ap (λ c. told stream 1 c recs) (later-is stream rec cursor)

      go : (b : Bool) → is_taking rec ≡ b → (a : Bool) → nat_le p after ≡ a
          → ((held : Rooms) → rooms_at_reach stream pid p after held recs ≡ reach_told pid p held rest)
          → cond a held (rooms_at_reach stream pid p after (rooms_after pid held rec) recs)
          ≡ reach_told pid p held (cond b (told stream 1 (next_cursor stream 1 rec cursor) recs) (told_at stream 1 cursor rec ∷ told stream 1 (next_cursor stream 1 rec cursor) recs))
      go true taking true is ih =
          let h : p ≤ after = grind (arith, nat_tests, is) in
          sym (ap (reach_told pid p held) next ∙ reached p after held recs h)
      go true taking false isnt ih =
          ap (λ h. rooms_at_reach stream pid p after h recs) (taking-rooms pid held rec taking) ∙ ih held ∙ sym (ap (reach_told pid p held) next)
      go false quiet true is ih =
          let here : nat_le p (next_cursor stream 1 rec cursor) ≡ true = ap (nat_le p) (later-is stream rec cursor) ∙ is in
          rw here refl
      go false quiet false isnt ih =
          let here : nat_le p (next_cursor stream 1 rec cursor) ≡ false = ap (nat_le p) (later-is stream rec cursor) ∙ isnt in
          rw here (ih (rooms_after pid held rec) ∙ sym (ap (reach_told pid p (rooms_after pid held rec)) next))

  module _ (s s' : Slice) (same : AreSameSlices stream s s') where
    first-cursor : later_cursor stream same.first s.low ≡ s.low
    first-cursor = quiet-cursor stream same.first s.low same.quiet

    -- the rooms at the end of slices that are the same
    pub same-end : (held : Rooms) → rooms_at_end pid held s'.recs ≡ rooms_at_end pid held s.recs
    same-end held =
        let after = rooms_after pid held same.first in
        ap (rooms_at_end pid held) same.recs'
        ∙ end-told 1 s.low after same.rest'
        ∙ ap (rooms_told pid after) (sym same.rests)
        ∙ sym (end-told 1 s.low after same.rest)
        ∙ ap (rooms_at_end pid held) (sym same.recs)

    -- the rooms where their cursors reach a position
    pub same-reach : (p : ℕ) (held : Rooms) → rooms_at_reach stream pid p s'.low held s'.recs ≡ rooms_at_reach stream pid p s.low held s.recs
    same-reach p held =
        ap (λ l. rooms_at_reach stream pid p l held s'.recs) same.low
        ∙ ap (rooms_at_reach stream pid p s.low held) same.recs'
        ∙ ap (λ c. cond (nat_le p c) held (rooms_at_reach stream pid p c after same.rest')) first-cursor
        ∙ ap (λ r. cond (nat_le p s.low) held r) rests
        ∙ sym (ap (λ c. cond (nat_le p c) held (rooms_at_reach stream pid p c after same.rest)) first-cursor)
        ∙ ap (rooms_at_reach stream pid p s.low held) (sym same.recs)
      where
        after : Rooms
        after = rooms_after pid held same.first

        rests : rooms_at_reach stream pid p s.low after same.rest' ≡ rooms_at_reach stream pid p s.low after same.rest
        rests = reach-told p s.low after same.rest' ∙ ap (reach_told pid p after) (sym same.rests) ∙ sym (reach-told p s.low after same.rest)

module _ (stream : List StreamRec) (taps taps' : List Tap) where
  same-rooms : (pid : Text) (p : ℕ) (held : Rooms) (ts ts' : List Turn) → AreAllSame stream taps taps' ts ts'
      → rooms_for stream pid held (map (slice_of (over stream taps')) ts') p ≡ rooms_for stream pid held (map (slice_of (over stream taps)) ts) p
  same-rooms pid p held [] [] all = refl
  same-rooms pid p held [] (t' ∷ ts') all = absurd all
  same-rooms pid p held (t ∷ ts) [] all = absurd all
  same-rooms pid p held (t ∷ ts) (t' ∷ ts') all =
      let s = slice_of (over stream taps) t in
      let s' = slice_of (over stream taps') t' in
      let same = all.0.slices in
      let later : rooms_for stream pid (rooms_at_end pid held s'.recs) (map (slice_of (over stream taps')) ts') p ≡ rooms_for stream pid (rooms_at_end pid held s.recs) (map (slice_of (over stream taps)) ts) p =
      ap (λ h. rooms_for stream pid h (map (slice_of (over stream taps')) ts') p) (same-end stream pid s s' same held)
      ∙ same-rooms pid p (rooms_at_end pid held s.recs) ts ts' all.1 in
      let here : cond (nat_le p s'.low) held (rooms_at_reach stream pid p s'.low held s'.recs) ≡ cond (nat_le p s.low) held (rooms_at_reach stream pid p s.low held s.recs) =
      ap (λ l. cond (nat_le p l) held (rooms_at_reach stream pid p s'.low held s'.recs)) same.low
      ∙ ap (λ r. cond (nat_le p s.low) held r) (same-reach stream pid s s' same p held) in
      ap (λ h. cond (nat_le p h) (Some (cond (nat_le p s'.low) held (rooms_at_reach stream pid p s'.low held s'.recs))) (rooms_for stream pid (rooms_at_end pid held s'.recs) (map (slice_of (over stream taps')) ts') p)) same.high
      ∙ ap (λ r. cond (nat_le p s.high) (Some r) (rooms_for stream pid (rooms_at_end pid held s'.recs) (map (slice_of (over stream taps')) ts') p)) here
      ∙ ap (λ r. cond (nat_le p s.high) (Some (cond (nat_le p s.low) held (rooms_at_reach stream pid p s.low held s.recs))) r) later

  same-past : (p : ℕ) (ts ts' : List Turn) → AreAllSame stream taps taps' ts ts'
      → is_past_first (map (slice_of (over stream taps')) ts') p ≡ is_past_first (map (slice_of (over stream taps)) ts) p
  same-past p [] [] all = refl
  same-past p [] (t' ∷ ts') all = absurd all
  same-past p (t ∷ ts) [] all = absurd all
  same-past p (t ∷ ts) (t' ∷ ts') all = ap (λ l. nat_lt l p) all.0.slices.low

  filter-same : (f g : ℕ → Bool) → ((p : ℕ) → f p ≡ g p) → (ps : List ℕ) → filter f ps ≡ filter g ps
  filter-same f g same [] = refl
  filter-same f g same (p ∷ ps) = ap (λ b. cond b (p ∷ filter f ps) (filter f ps)) (same p) ∙ ap (λ xs. cond (g p) (p ∷ xs) xs) (filter-same f g same ps)

  -- what is due by the same turns
  pub same_due : (who : Who) (ts ts' : List Turn) → AreAllSame stream taps taps' ts ts'
      → turns_due stream who (map (slice_of (over stream taps')) ts') ≡ turns_due stream who (map (slice_of (over stream taps)) ts)
  same_due who ts ts' all =
      filter-same (is_turn_due stream who (map (slice_of (over stream taps')) ts')) (is_turn_due stream who (map (slice_of (over stream taps)) ts))
      (λ p.
      ap (λ b. b && is_for_rooms (entry stream p) who.nsp (rooms_for stream who.pid (own_room who.sid) (map (slice_of (over stream taps')) ts') p)) (same-past p ts ts' all)
      ∙ ap (λ r. is_past_first (map (slice_of (over stream taps)) ts) p && is_for_rooms (entry stream p) who.nsp r) (same-rooms who.pid p (own_room who.sid) ts ts' all))
      (positions_after 0 (length stream))
