-- The rooms that a session holds are rooms that it ever held.
use Rattle.std.proofs.Common.{◌≡◌, ◌||◌, ◌-◌, not, ℕ, Bool, true, false, cond, List, [], ◌∷◌, map, get_or, drop, Option, Some, None, nat_le, slice_get, refl, sym, ap, ◌∙◌, arith, bytes_eq}
use Rattle.std.specs.List.{All, list_any}
use Rattle.std.specs.FinSet as set
use Rattle.std.specs.Cmp.Lexicographic.{slice_cmp, nat_list_cmp_total}
use Rattle.std.specs.Ordering.{nat_cmp, eq_by_cmp}
use Rattle.std.proofs.lemmas.Bool.{false≢true, and_parts, and_from, cond_both}
use Rattle.std.proofs.lemmas.List.Elements.{All-head, All-tail, All-nil, All-cons, All-take, All-drop}
use Rattle.std.proofs.lemmas.Option.{slice_get-get_or}
use Rattle.aud_tap.specs.declared.records.StreamRec.{StreamRec}
use Rattle.aud_tap.specs.declared.records.NodeRec.{NodeRec}
use Rattle.aud_tap.specs.declared.records.NodeRec.TheVariants.{Opened, Join, Leave}
use Rattle.aud_tap.specs.declared.taps.Tap.{Tap}
use Rattle.aud_base.proofs.SameText.{itself_text}
use Rattle.aud_node.specs.Cluster.{node_recs, node_log}
use Rattle.aud_node.specs.Cursors.{later_cursor}
use Rattle.aud_node.specs.Stream.{Text}
use Rattle.aud_rooms.specs.Rooms.{Rooms, own_room, rooms_after}
use Rattle.aud_rooms.specs.Turns.{Who, Turn, Slice, slice_of, IsChain}
use Rattle.aud_rooms.specs.TurnsDue.{rooms_at_end, rooms_at_reach, rooms_for}
use Rattle.aud_rooms.proofs.RoomMaps.{same_text}
use Rattle.aud_parts.specs.MadeOther.{opens_in, gives_room, any_record, ever_held}
use Rattle.aud_laws.proofs.LeftOut.Logs.{over, any-there, tap-there, log-at}

-- where a record of a node's log passes, one does
pub any_record-there : (stream : List StreamRec) (taps : List Tap) (test : NodeRec → Bool) (node i : ℕ) (rec : NodeRec) → slice_get (node_log (over stream taps) node) i ≡ Some rec
    → test rec ≡ true → any_record test taps ≡ true
any_record-there stream taps test node i rec at is =
    let (tap, there) = tap-there taps node i rec at in
    any-there (λ (t : Tap). list_any test (node_recs (Some t.records))) taps node tap there
    (any-there test (node_recs (Some tap.records)) i rec (sym (ap (λ log. slice_get log i) (log-at stream taps node tap there)) ∙ at) is)

-- each room that is held passes the test
abbrev pub HeldPass : (Text → Bool) → Rooms → Type 0
HeldPass test held = (room : Text) → set.contains held room ≡ true → test room ≡ true

-- so where there are rooms
abbrev pub SomePass : (Text → Bool) → Option Rooms → Type 0
SomePass test None = Unit {0}
SomePass test (Some held) = HeldPass test held

-- each room that the record gives the session passes the test
abbrev pub GivesPass : (Text → Bool) → Text → NodeRec → Type 0
GivesPass test pid rec = (room : Text) → gives_room pid room rec ≡ true → test room ≡ true

module _ (test : Text → Bool) where
  -- a room that passes is put in
  inserted-pass : (held : Rooms) (joined : Text) → HeldPass test held → test joined ≡ true → HeldPass test (set.insert held joined)
  inserted-pass held joined pass is room contains =
      go (eq_by_cmp (slice_cmp nat_cmp) room joined) refl (sym (set.contains-insert nat_list_cmp_total held joined room) ∙ contains)
    where
      go : (b : Bool) → eq_by_cmp (slice_cmp nat_cmp) room joined ≡ b → (b || set.contains held room) ≡ true → test room ≡ true
      go true same h = ap test (same_text room joined same) ∙ is
      go false other h = pass room h

  -- a room is taken out
  removed-pass : (held : Rooms) (left : Text) → HeldPass test held → HeldPass test (set.remove held left)
  removed-pass held left pass room contains =
      pass room (and_parts (not (eq_by_cmp (slice_cmp nat_cmp) room left)) (set.contains held room) (sym (set.contains-remove nat_list_cmp_total held left room) ∙ contains)).1

  -- the one room named by the sid
  pub own-pass : (sid : Text) → test sid ≡ true → HeldPass test (own_room sid)
  own-pass sid is = inserted-pass set.empty sid (λ room contains. absurd (false≢true (sym (set.contains-empty (slice_cmp nat_cmp) room) ∙ contains))) is

  module _ (pid : Text) where
    after-pass : (held : Rooms) (rec : NodeRec) → HeldPass test held → GivesPass test pid rec → HeldPass test (rooms_after pid held rec)
    after-pass held (Join other joined) pass gives =
        cond_both (bytes_eq other pid) (set.insert held joined) held (HeldPass test)
        (λ is. inserted-pass held joined pass (gives joined (and_from (bytes_eq other pid) (bytes_eq joined joined) is (itself_text joined)))) (λ no. pass)
    after-pass held (Leave other left) pass gives =
        cond_both (bytes_eq other pid) (set.remove held left) held (HeldPass test) (λ is. removed-pass held left pass) (λ no. pass)
    after-pass held _ pass gives = pass

    end-pass : (held : Rooms) (recs : List NodeRec) → HeldPass test held → All (GivesPass test pid) recs → HeldPass test (rooms_at_end pid held recs)
    end-pass held [] pass all = pass
    end-pass held (rec ∷ recs) pass all =
        end-pass (rooms_after pid held rec) recs (after-pass held rec pass (All-head (GivesPass test pid) rec recs all)) (All-tail (GivesPass test pid) rec recs all)

    reach-pass : (stream : List StreamRec) (p cursor : ℕ) (held : Rooms) (recs : List NodeRec) → HeldPass test held → All (GivesPass test pid) recs → HeldPass test (rooms_at_reach stream pid p cursor held recs)
    reach-pass stream p cursor held [] pass all = pass
    reach-pass stream p cursor held (rec ∷ recs) pass all =
        let later = later_cursor stream rec cursor in
        cond_both (nat_le p later) held (rooms_at_reach stream pid p later (rooms_after pid held rec) recs) (HeldPass test) (λ is. pass)
        (λ no. reach-pass stream p later (rooms_after pid held rec) recs (after-pass held rec pass (All-head (GivesPass test pid) rec recs all)) (All-tail (GivesPass test pid) rec recs all))

    -- the rooms of a position pass
    pub rooms-pass : (stream : List StreamRec) (p : ℕ) (held : Rooms) (slices : List Slice) → HeldPass test held → All (λ (s : Slice). All (GivesPass test pid) s.recs) slices
        → SomePass test (rooms_for stream pid held slices p)
    rooms-pass stream p held [] pass all = tt
    rooms-pass stream p held (slice ∷ later) pass all =
        let own = All-head (λ (s : Slice). All (GivesPass test pid) s.recs) slice later all in
        let rest = All-tail (λ (s : Slice). All (GivesPass test pid) s.recs) slice later all in
        let there = rooms_at_reach stream pid p slice.low held slice.recs in
        cond_both (nat_le p slice.high) (Some (cond (nat_le p slice.low) held there)) (rooms_for stream pid (rooms_at_end pid held slice.recs) later p) (SomePass test)
        (λ is. cond_both (nat_le p slice.low) held there (HeldPass test) (λ low. pass) (λ past. reach-pass stream p slice.low held slice.recs pass own))
        (λ no. rooms-pass stream p (rooms_at_end pid held slice.recs) later (end-pass held slice.recs pass own) rest)

module _ (stream : List StreamRec) (taps : List Tap) (who : Who) where
  abbrev ever : Text → Bool
  ever = ever_held taps who.pid

  -- a room that a record of a node's log gives the session, it ever held
  log-gives : (node : ℕ) → All (GivesPass ever who.pid) (node_log (over stream taps) node)
  log-gives node k d lt room gives =
      let log = node_log (over stream taps) node in
      any_record-there stream taps (gives_room who.pid room) node k (get_or log k d) (slice_get-get_or log k d lt) gives

  -- and so of its turns
  pub slices-give : (ts : List Turn) → All (λ (s : Slice). All (GivesPass ever who.pid) s.recs) (map (slice_of (over stream taps)) ts)
  slices-give [] = All-nil (λ (s : Slice). All (GivesPass ever who.pid) s.recs)
  slices-give (t ∷ ts) =
      let log = node_log (over stream taps) t.node in
      All-cons (λ (s : Slice). All (GivesPass ever who.pid) s.recs) (slice_of (over stream taps) t) (map (slice_of (over stream taps)) ts)
      (All-take (GivesPass ever who.pid) (t.to - t.from) (drop t.from log) (All-drop (GivesPass ever who.pid) t.from log (log-gives t.node))) (slices-give ts)

  -- the record that opens the session
  opening : (ts : List Turn) → IsChain (over stream taps) who ts → (node : ℕ) × (i : ℕ) × (slice_get (node_log (over stream taps) node) i ≡ Some (Opened who.pid who.sid who.nsp))
  opening [] chain = absurd (let some = chain.some in omega (arith, some))
  opening (t ∷ ts) chain = (t.node, t.from, chain.are_turns.0.begins)

  -- it opens it in its namespace
  pub opened : (ts : List Turn) → IsChain (over stream taps) who ts → any_record (opens_in who.pid who.nsp) taps ≡ true
  opened ts chain =
      let (node, i, at) = opening ts chain in
      any_record-there stream taps (opens_in who.pid who.nsp) node i (Opened who.pid who.sid who.nsp) at
      (and_from (bytes_eq who.pid who.pid) (bytes_eq who.nsp who.nsp) (itself_text who.pid) (itself_text who.nsp))

  -- and in the room named by its sid
  pub own-ever : (ts : List Turn) → IsChain (over stream taps) who ts → ever_held taps who.pid who.sid ≡ true
  own-ever ts chain =
      let (node, i, at) = opening ts chain in
      any_record-there stream taps (gives_room who.pid who.sid) node i (Opened who.pid who.sid who.nsp) at
      (and_from (bytes_eq who.pid who.pid) (bytes_eq who.sid who.sid) (itself_text who.pid) (itself_text who.sid))
