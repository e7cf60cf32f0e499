-- What single records do to a session.
use Rattle.std.proofs.lemmas.Bool.Decides.{nat_tests}
use Rattle.std.proofs.Common.{◌≡◌, ◌≤◌, ℕ, zero, suc, true, Some, arith}
use Rattle.aud_tap.specs.declared.records.NodeRec.{NodeRec}
use Rattle.aud_base.proofs.SameText.{itself_text, other_text}
use Rattle.aud_node.specs.Stream.{Text}
use Rattle.aud_node.specs.TurnRecords.{pid_of, begins_turn}
use Rattle.aud_rooms.specs.Rooms.{Rooms, own_room, rooms_after}
use Rattle.aud_rooms.specs.Turns.{Who, beginning, Inner, Last, End, ByBreak, ByGone, ByLog, part_of}
use Rattle.aud_merge.specs.ByTurns.{session_past}
use Rattle.aud_merge.specs.Sessions.{SessionState, Absent, Here, Away, Ended, session_after}

-- the session is in turn k or has passed it
abbrev pub IsBeyond : ℕ → SessionState → Type 0
IsBeyond k Absent = ⊥
IsBeyond k (Here node turn sid nsp rooms) = k ≤ turn
IsBeyond k (Away turn sid nsp rooms) = k ≤ turn
IsBeyond k Ended = Unit {0}

-- a session that has come to a turn doesn't go back before it
pub IsBeyond-after : (l k : ℕ) (rec : NodeRec) (s s' : SessionState) → session_after l rec s ≡ Some s' → IsBeyond k s → IsBeyond k s'
IsBeyond-after l k rec s s' e b = grind (arith, nat_tests)

-- the record that begins turn k is allowed only before that turn
pub beginning-allowed : (l : ℕ) (pid : Text) (k : ℕ) (rec : NodeRec) (s s' : SessionState) → begins_turn pid k rec ≡ true → session_after l rec s ≡ Some s' → IsBeyond k s → ⊥
beginning-allowed l pid k rec s s' begins e b = grind (arith, nat_tests)

-- what stands before turn k
abbrev pub waiting : Who → ℕ → Rooms → SessionState
waiting who zero held = Absent
waiting who (suc k) held = Away k who.sid who.nsp held

-- while it waits for turn k, only a record that begins that turn may name it
pub waiting-after : (l : ℕ) (who : Who) (k : ℕ) (held : Rooms) (rec : NodeRec) (s' : SessionState)
    → pid_of rec ≡ Some who.pid → session_after l rec (waiting who k held) ≡ Some s' → begins_turn who.pid k rec ≡ true
waiting-after l who k held rec s' names e = grind (arith, nat_tests, itself_text who.pid)

-- a record that begins turn k leaves the session in that turn
pub begins-beyond : (l : ℕ) (pid : Text) (k : ℕ) (rec : NodeRec) (s s' : SessionState) → begins_turn pid k rec ≡ true → session_after l rec s ≡ Some s' → IsBeyond k s'
begins-beyond l pid k rec s s' begins e = grind (arith, nat_tests)

-- what a session that is on a node may do, it does by that node's records
pub here-node : (l : ℕ) (rec : NodeRec) (at k : ℕ) (sid nsp : Text) (held : Rooms) (s' : SessionState) → session_after l rec (Here at k sid nsp held) ≡ Some s' → at ≡ l
here-node l rec at k sid nsp held s' e = grind (arith, nat_tests)

-- it doesn't begin a turn
pub beginning-here : (l : ℕ) (who : Who) (n : ℕ) (at k : ℕ) (sid nsp : Text) (held : Rooms) (s' : SessionState) → session_after l (beginning who n) (Here at k sid nsp held) ≡ Some s' → ⊥
beginning-here l who n at k sid nsp held s' e = grind arith

-- nothing is allowed of a session that is over
pub ended-after : (l : ℕ) (rec : NodeRec) (s' : SessionState) → session_after l rec Ended ≡ Some s' → ⊥
ended-after l rec s' e = grind arith

-- the session past a record that names it is what the record makes of it
pub past-named : (l : ℕ) (pid : Text) (rec : NodeRec) (s s' : SessionState) → pid_of rec ≡ Some pid → session_after l rec s ≡ Some s' → session_past l pid s rec ≡ s'
past-named l pid rec s s' names e = grind (arith, itself_text pid)

-- past another record it is what it was
pub past-other : (l : ℕ) (pid : Text) (rec : NodeRec) (s : SessionState) → (pid_of rec ≡ Some pid → ⊥) → session_past l pid s rec ≡ s
past-other l pid rec s n = grind (arith, other_text)

-- past an inner record of its turn it has the rooms that this leaves
pub past-inner : (node : ℕ) (pid : Text) (k : ℕ) (sid nsp : Text) (held : Rooms) (rec : NodeRec) → part_of pid k rec ≡ Inner
    → session_past node pid (Here node k sid nsp held) rec ≡ Here node k sid nsp (rooms_after pid held rec)
past-inner node pid k sid nsp held rec part = grind (arith, nat_tests)

-- past the last record of its turn it is this
abbrev pub ended : End → ℕ → Text → Text → Rooms → SessionState
ended ByBreak k sid nsp held = Away k sid nsp held
ended ByGone k sid nsp held = Ended
ended ByLog k sid nsp held = Ended

-- past it, the session is as it says
pub past-last : (node : ℕ) (pid : Text) (k : ℕ) (sid nsp : Text) (held : Rooms) (rec : NodeRec) (e : End) → part_of pid k rec ≡ Last e
    → session_past node pid (Here node k sid nsp held) rec ≡ ended e k sid nsp held
past-last node pid k sid nsp held rec e part = grind (arith, nat_tests)

-- past the record that begins its turn it is on that node
pub past-beginning : (node : ℕ) (who : Who) (k : ℕ) (held : Rooms) → (k ≡ 0 → held ≡ own_room who.sid) → session_past node who.pid (waiting who k held) (beginning who k) ≡ Here node k who.sid who.nsp held
past-beginning node who k held first = grind (arith, itself_text who.pid, nat_tests)

-- a record that ends a turn moves no room
pub last-rooms : (pid : Text) (k : ℕ) (held : Rooms) (rec : NodeRec) (e : End) → part_of pid k rec ≡ Last e → rooms_after pid held rec ≡ held
last-rooms pid k held rec e part = grind arith
