-- What is wrong with what a client received of a session, and which fault comes first.
use Rattle.std.specs.Prelude.{◌≡◌, ◌<◌, ℕ, true, false, List, [], map, Option, Some, None, IsSome}
use Rattle.std.specs.Option.{option_map}
use Rattle.aud_tap.specs.declared.records.StreamRec.{StreamRec}
use Rattle.aud_node.specs.Stream.{Text}
use Rattle.aud_merge.specs.ByTurns.{IsPrefixOf}
use Rattle.aud_client.specs.StaySeen.{StaySeen, FrameSeen}
use Rattle.aud_client.specs.Received.{TranscriptSeen}
use Rattle.aud_cert.specs.declared.fault.Fault.{Fault}
use Rattle.aud_cert.specs.declared.fault.Fault.TheVariants.{Frame, Orphan, Content, Extra, Doubled, Swapped, Lost, Window}
use Rattle.aud_check.specs.declared.difference.Difference.{Difference}
use Rattle.aud_check.specs.declared.difference.Difference.TheVariants as parted
use Rattle.aud_check.specs.Difference.{difference}
use Rattle.aud_check.specs.Frames.{AreEntries, IsFirstAltered, offset_at, wrong_window}

-- the stream, what the client's tap tells, the stays that name the session, what was received of it, and what was due
pub record Case : Type 0 where
  pub stream : List StreamRec
  pub transcript : TranscriptSeen
  pub stays : List StaySeen
  pub frames : List FrameSeen
  pub due : List ℕ

-- the received positions
abbrev pub positions_in : Case → List ℕ
positions_in case = map (λ (frame : FrameSeen). frame.position) case.frames

-- the position that a difference is about
abbrev pub position_in : Difference → ℕ
position_in (parted.Extra frame p) = p
position_in (parted.Doubled first again p) = p
position_in (parted.Swapped frame p later) = p
position_in (parted.Lost frame p) = p

-- a difference as a fault about an offset
abbrev pub named : Difference → Text → Fault
named (parted.Extra frame p) off = Extra off
named (parted.Doubled first again p) off = Doubled off
named (parted.Swapped frame p later) off = Swapped off
named (parted.Lost frame p) off = Lost off

-- a difference as a fault about the offset at its position
abbrev pub fault_of : List StreamRec → Difference → Fault
fault_of stream difference = named difference (offset_at stream (position_in difference))

-- the fault of the first place where the received positions aren't those due
abbrev pub difference_fault : Case → Option Fault
difference_fault case = option_map (fault_of case.stream) (difference (positions_in case) case.due)

-- where each fault holds
abbrev pub HasFault : Case → Fault → Type 0
HasFault case Frame = IsSome case.transcript.bad
HasFault case Orphan = case.transcript.orphan ≡ true
HasFault case (Content off) = (altered : FrameSeen) × IsFirstAltered case.stream case.frames altered × (off ≡ offset_at case.stream altered.position)
HasFault case (Extra off) = difference_fault case ≡ Some (Extra off)
HasFault case (Doubled off) = difference_fault case ≡ Some (Doubled off)
HasFault case (Swapped off) = difference_fault case ≡ Some (Swapped off)
HasFault case (Lost off) = difference_fault case ≡ Some (Lost off)
HasFault case (Window c) = wrong_window case.stream [] case.stays ≡ Some c
HasFault case _ = ⊥

-- every record decodes, every event that came has a session and is its entry, the due positions begin with those
-- received, and every recovery went on where it had to
pub record IsReceived (case : Case) : Type 0 where
  pub decodes : case.transcript.bad ≡ None
  pub has_no_orphan : case.transcript.orphan ≡ false
  pub are_entries : AreEntries case.stream case.frames
  pub is_prefix : IsPrefixOf (positions_in case) case.due
  pub has_no_window : wrong_window case.stream [] case.stays ≡ None

-- the order of the faults
abbrev pub fault_rank : Fault → ℕ
fault_rank Frame = 0
fault_rank Orphan = 1
fault_rank (Content off) = 2
fault_rank (Extra off) = 3
fault_rank (Doubled off) = 3
fault_rank (Swapped off) = 3
fault_rank (Lost off) = 3
fault_rank (Window c) = 4
fault_rank _ = 5

-- of all faults that hold this is the first
pub record IsFirstFault (case : Case) (fault : Fault) : Type 0 where
  pub holds : HasFault case fault
  pub none_before : (other : Fault) → fault_rank other < fault_rank fault → HasFault case other → ⊥
