-- What is found wrong with what a client received of a session.
use Rattle.std.specs.Prelude.{◌≡◌, ℕ, true, List, IsSome}
use Rattle.aud_tap.specs.declared.records.StreamRec.{StreamRec}
use Rattle.aud_client.specs.StaySeen.{StaySeen}
use Rattle.aud_client.specs.Received.{TranscriptSeen}
use Rattle.aud_cert.specs.declared.fault.Fault.{Fault}
use Rattle.aud_cert.specs.declared.fault.Fault.TheVariants as fault
use Rattle.aud_check.specs.declared.finding.Finding.{Finding}
use Rattle.aud_check.specs.declared.finding.Finding.TheVariants.{Frame, Orphan, Content, Delivery, Window}
use Rattle.aud_check.specs.Content.{IsAltered}
use Rattle.aud_check.specs.Difference.{IsDifference}
use Rattle.aud_check.specs.Faults.{Case, IsFirstFault, fault_of, positions_in}
use Rattle.aud_check.specs.Frames.{frames_in, offset_at}
use Rattle.aud_check.specs.Window.{IsBadWindow}

-- what stays received, against what was due
abbrev pub by_stays : List StreamRec → TranscriptSeen → List StaySeen → List ℕ → Case
by_stays stream transcript stays due = record { stream = stream; transcript = transcript; stays = stays; frames = frames_in stays; due = due }

-- what was found is as it says
abbrev pub IsFinding : Case → Finding → Type 0
IsFinding case Frame = IsSome case.transcript.bad
IsFinding case Orphan = case.transcript.orphan ≡ true
IsFinding case (Content altered) = IsAltered case.stream case.frames altered
IsFinding case (Delivery difference) = IsDifference (positions_in case) case.due difference
IsFinding case (Window window) = IsBadWindow case.stream case.stays window

-- the fault that a verdict names for it
abbrev pub fault_shown : List StreamRec → Finding → Fault
fault_shown stream Frame = fault.Frame
fault_shown stream Orphan = fault.Orphan
fault_shown stream (Content altered) = fault.Content (offset_at stream altered.position)
fault_shown stream (Delivery difference) = fault_of stream difference
fault_shown stream (Window window) = fault.Window window.c

-- it is as it says, and of all faults that hold its fault is the first
pub record IsFirstFinding (case : Case) (finding : Finding) : Type 0 where
  pub shown : IsFinding case finding
  pub is_first : IsFirstFault case (fault_shown case.stream finding)
