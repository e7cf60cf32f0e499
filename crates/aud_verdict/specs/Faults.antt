-- The faults of a session, over the logs alone, and the first that holds.
use Rattle.std.specs.Prelude.{◌≡◌, ◌<◌, ℕ, Bool, true, false, [], length, Some, IsSome}
use Rattle.std.specs.List.{Contains}
use Rattle.aud_node.specs.Stream.{Text}
use Rattle.aud_node.specs.Cluster.{Cluster}
use Rattle.aud_client.specs.Replies.{naming_places}
use Rattle.aud_rooms.specs.Turns.{HasNoTurn}
use Rattle.aud_client.specs.StaySeen.{StaySeen, FrameSeen}
use Rattle.aud_cert.specs.declared.fault.Fault.{Fault}
use Rattle.aud_cert.specs.declared.fault.Fault.TheVariants.{NoLog, Chain, Order, Client, Names, Frame, Orphan, Content, Extra, Doubled, Swapped, Lost, Window, Tail}
use Rattle.aud_maker.specs.Chain.{HasNoChain}
use Rattle.aud_maker.specs.Faults.{HasUnordered}
use Rattle.aud_check.specs.NamedStays.{is_of_session}
use Rattle.aud_check.specs.Frames.{IsFirstAltered, offset_at, wrong_window}
use Rattle.aud_check.specs.Faults.{difference_fault}
use Rattle.aud_verdict.specs.Session.{SessionLogs, IsSession, transcript, own_stays, received_by, session_case, missed}

-- a reply that names the session has another sid or namespace than its `open`
abbrev pub HasOtherNames : Cluster → SessionLogs → Type 0
HasOtherNames c s = (stay : StaySeen) × Contains (own_stays c s) stay × (is_of_session s.who stay ≡ false)

-- where each fault holds that is about what the client's tap tells of the session: a reply names it otherwise; a record
-- of the tap doesn't decode; an event there has no session; of the events received the first that isn't its entry; at
-- the first place where the positions received aren't those due, what is wrong; the connection of the first recovery
-- that was asked for wrongly; and where the whole is asked for, so many positions that were due were not received
abbrev pub HoldsOf : Cluster → Bool → SessionLogs → Fault → Type 0
HoldsOf c whole s Names = HasOtherNames c s
HoldsOf c whole s Frame = IsSome (transcript c s).bad
HoldsOf c whole s Orphan = (transcript c s).orphan ≡ true
HoldsOf c whole s (Content off) = (altered : FrameSeen) × IsFirstAltered c.stream (received_by c s) altered × (off ≡ offset_at c.stream altered.position)
HoldsOf c whole s (Extra off) = difference_fault (session_case c s) ≡ Some (Extra off)
HoldsOf c whole s (Doubled off) = difference_fault (session_case c s) ≡ Some (Doubled off)
HoldsOf c whole s (Swapped off) = difference_fault (session_case c s) ≡ Some (Swapped off)
HoldsOf c whole s (Lost off) = difference_fault (session_case c s) ≡ Some (Lost off)
HoldsOf c whole s (Window connection) = wrong_window c.stream [] (own_stays c s) ≡ Some connection
HoldsOf c whole s (Tail count) = (whole ≡ true) × (0 < count) × (count ≡ length (missed c s))
HoldsOf c whole s _ = ⊥

-- where each fault holds: no node has an `open` of the pid; its records are no chain of turns; the node of a turn isn't
-- ordered; not exactly one client tap has a reply that names the pid; and where the session has turns and one such tap,
-- what that tap tells is at fault
abbrev pub Holds : Cluster → Bool → Text → Fault → Type 0
Holds c whole pid NoLog = HasNoTurn c pid 0
Holds c whole pid Chain = HasNoChain c pid
Holds c whole pid Order = HasUnordered c pid
Holds c whole pid Client = length (naming_places c.taps pid) ≡ 1 → ⊥
Holds c whole pid fault = (s : SessionLogs) × IsSession c pid s × HoldsOf c whole s fault

-- the order in which they are named
abbrev pub verdict_rank : Fault → ℕ
verdict_rank NoLog = 0
verdict_rank Chain = 1
verdict_rank Order = 2
verdict_rank Client = 3
verdict_rank Names = 4
verdict_rank Frame = 5
verdict_rank Orphan = 6
verdict_rank (Content off) = 7
verdict_rank (Extra off) = 8
verdict_rank (Doubled off) = 9
verdict_rank (Swapped off) = 10
verdict_rank (Lost off) = 11
verdict_rank (Window c) = 12
verdict_rank (Tail n) = 13

-- of all faults that hold this is the first
pub record HoldsFirst (c : Cluster) (whole : Bool) (pid : Text) (fault : Fault) : Type 0 where
  pub holds : Holds c whole pid fault
  pub none_before : (other : Fault) → verdict_rank other < verdict_rank fault → Holds c whole pid other → ⊥

-- none of them holds
abbrev pub NoneHolds : Cluster → Bool → Text → Type 0
NoneHolds c whole pid = (fault : Fault) → Holds c whole pid fault → ⊥

-- the fault is about the first place where what was received isn't what was due
abbrev pub IsMisdelivery : Fault → Type 0
IsMisdelivery (Extra off) = Unit {0}
IsMisdelivery (Doubled off) = Unit {0}
IsMisdelivery (Swapped off) = Unit {0}
IsMisdelivery (Lost off) = Unit {0}
IsMisdelivery _ = ⊥
