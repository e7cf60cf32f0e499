-- What a certificate shows: a session, its turns in the logs, and its client's tap.
use Rattle.std.specs.Prelude.{ℕ, List, [], ◌∷◌, map, Option, Some, None, slice_get}
use Rattle.aud_tap.specs.declared.records.NodeRec.{NodeRec}
use Rattle.aud_tap.specs.declared.records.NodeRec.TheVariants.{Opened}
use Rattle.aud_tap.specs.declared.records.ClientRec.{ClientRec}
use Rattle.aud_node.specs.Stream.{Text}
use Rattle.aud_node.specs.Cluster.{Cluster}
use Rattle.aud_node.specs.NodeTaps.{client_at}
use Rattle.aud_rooms.specs.Turns.{Who, Turn, Slice, slice_of}
use Rattle.aud_rooms.specs.TurnsDue.{turns_due}
use Rattle.aud_cert.specs.Certificate.{CertificateSeen, TurnSeen, turn_at, place_named}
use Rattle.aud_client.specs.StaySeen.{FrameSeen}
use Rattle.aud_client.specs.Received.{received_list}

-- the sid and the namespace that the record opens a session with; empty texts where it is no `open`
abbrev pub opened_sid : Option NodeRec → Text
opened_sid (Some (Opened pid sid nsp)) = sid
opened_sid _ = []

-- the namespace that an `open` names; the empty text of any other record
abbrev pub opened_nsp : Option NodeRec → Text
opened_nsp (Some (Opened pid sid nsp)) = nsp
opened_nsp _ = []

-- the first record of the first turn
abbrev pub first_record : List TurnSeen → Option NodeRec
first_record [] = None
first_record (t ∷ later) = slice_get t.recs 0

-- the session of this pid, as the first record of its turns opens it
abbrev pub who_in : Text → List TurnSeen → Who
who_in pid turns = record { pid = pid; sid = opened_sid (first_record turns); nsp = opened_nsp (first_record turns) }

-- the session of the certificate
abbrev pub who_of : CertificateSeen → Who
who_of cert = who_in cert.pid cert.turns

-- the records of turns, with the nodes' cursors, where they stand in the logs
abbrev pub slices_at : Cluster → List TurnSeen → List Slice
slices_at c turns = map (slice_of c) (map (turn_at c) turns)

-- where the turns stand in the logs
abbrev pub turns_of : Cluster → CertificateSeen → List Turn
turns_of c cert = map (turn_at c) cert.turns

-- the records of the turns, with the nodes' cursors
abbrev pub slices_of : Cluster → CertificateSeen → List Slice
slices_of c cert = slices_at c cert.turns

-- what is due to the session by the shown turns
abbrev pub shown_due : Cluster → CertificateSeen → List ℕ
shown_due c cert = turns_due c.stream (who_of cert) (slices_of c cert)

-- the records of a client's tap; none where there is no such tap
abbrev pub recs_or_none : Option (List ClientRec) → List ClientRec
recs_or_none None = []
recs_or_none (Some recs) = recs

-- the records of the client's tap with this name
abbrev pub client_log_named : Cluster → Text → List ClientRec
client_log_named c name = recs_or_none (client_at c (place_named c name))

-- the events that the client received of the session, in the order of its tap
abbrev pub frames_received : Cluster → CertificateSeen → List FrameSeen
frames_received c cert = received_list c.stream (client_log_named c cert.client) cert.pid
