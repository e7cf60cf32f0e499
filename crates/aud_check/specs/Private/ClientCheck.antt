-- What the check of a client's tap answers.
use Rattle.std.specs.Prelude.{◌≡◌, true, false, Option, option_map}
use Rattle.aud_node.specs.Stream.{Text}
use Rattle.aud_node.specs.Cluster.{Cluster}
use Rattle.aud_node.specs.NodeTaps.{client_at}
use Rattle.aud_rooms.specs.Turns.{Who}
use Rattle.aud_cert.specs.Certificate.{place_named}
use Rattle.aud_client.specs.Received.{TranscriptSeen, transcript_of}
use Rattle.aud_check.specs.declared.refusal.Refusal.{Refusal}
use Rattle.aud_check.specs.declared.refusal.Refusal.TheVariants.{Names, Received, Memory}
use Rattle.aud_check.specs.NamedStays.{are_of_session}
use Rattle.aud_check.specs.Faults.{Case, IsFirstFault}

-- what the client's tap with this name tells, if there is one
abbrev pub transcript_named : Cluster → Text → Option TranscriptSeen
transcript_named c client = option_map (transcript_of c.stream) (client_at c (place_named c client))

-- the refusal is the tap's, unless memory ran out: it tells of no such session, or this is the first fault
abbrev pub IsClientRefusal : Who → Case → Refusal → Type 0
IsClientRefusal who case Names = are_of_session who case.stays ≡ false
IsClientRefusal who case (Received fault) = (are_of_session who case.stays ≡ true) × IsFirstFault case fault
IsClientRefusal who case Memory = Unit {0}
IsClientRefusal who case _ = ⊥
