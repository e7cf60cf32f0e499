-- The packet whose attachments were not all there when a text came (Socket.IO protocol 5, "Packet encoding": the
-- attachments of a packet follow its text at once).
use Rattle.std.specs.Prelude.{ℕ, zero, suc, ◌-◌, List, [], ◌∷◌, flat_map, length, take, Option, Some, None, Result, Ok, Err, slice_get}
use Rattle.std.specs.Option.{option_and_then, option_or}
use Rattle.aud_tap.specs.declared.records.ClientRec.{ClientRec}
use Rattle.aud_eio.specs.declared.packet.EioFault.{EioFault}
use Rattle.aud_eio.specs.Packet as eio
use Rattle.aud_sio.specs.declared.fault.SioFault.{SioFault}
use Rattle.aud_sio.specs.Message.{Message, Text, Bytes, messages_of}
use Rattle.aud_sio.specs.Packet.{PacketSeen, packet_of}
use Rattle.aud_sio.specs.Wholes.{leading_bytes}
use Rattle.aud_node.specs.Cluster.{Cluster}
use Rattle.aud_node.specs.NodeTaps.{client_at}
use Rattle.aud_client.specs.TapPackets.{engine_packets, messages_at, numbered_records, tap_packets}
use Rattle.aud_input.specs.TapLines.{TapLines}
use Rattle.aud_rows.specs.declared.row.Role.{Role}
use Rattle.aud_rows.specs.Marks.{begin_from, connection_of, open_before}
use Rattle.aud_rows.specs.Rows.{Said, said_row}
use Rattle.aud_rows.specs.Seen.{RowSeen, Lacks}

-- ---- attachments that did not come

-- how many attachments a packet has
abbrev pub attachments_in : Result PacketSeen SioFault → ℕ
attachments_in (Ok packet) = packet.attachments
attachments_in (Err fault) = 0

-- the place of the last text of these messages, and how many attachments of its packet do not follow it
abbrev pub last_text : List (ℕ × Message) → Option (ℕ × ℕ)
last_text [] = None
last_text ((place, Text text) ∷ l) = option_or (last_text l) (Some (place, attachments_in (packet_of text) - length (leading_bytes l)))
last_text ((place, Bytes blob) ∷ l) = last_text l

-- how many of so many attachments are missing when the first text of these messages comes; none where no text comes
abbrev pub missing_at_text : ℕ → List Message → ℕ
missing_at_text missing [] = 0
missing_at_text missing (Text text ∷ l) = missing
missing_at_text missing (Bytes blob ∷ l) = missing_at_text (missing - 1) l

-- ---- in a tap

-- the messages of the connection that goes on after these records, each at its record's number
abbrev pub messages_before : List ClientRec → List (ℕ × Message)
messages_before recs = flat_map messages_at (numbered_records (begin_from 0 0 recs) (connection_of recs))

-- the messages of a record from the server; none where the record is refused
abbrev pub messages_given : Result (List eio.Packet) EioFault → List Message
messages_given (Ok packets) = flat_map messages_of packets
messages_given (Err fault) = []

abbrev pub messages_in : Option ClientRec → List Message
messages_in None = []
messages_in (Some rec) = messages_given (engine_packets rec)

-- ---- the row

-- what is said of the last text before the record with this number, where attachments of its packet are missing when a
-- text of that record comes
abbrev pub lacks_said : ℕ → ℕ → ℕ → Option Said
lacks_said conn earlier zero = None
lacks_said conn earlier (suc more) = Some (earlier, Lacks conn (suc more))

abbrev pub lacking_after : List ClientRec → ℕ → ℕ → (ℕ × ℕ) → Option Said
lacking_after recs number conn last = lacks_said conn last.0 (missing_at_text last.1 (messages_in (slice_get recs number)))

abbrev pub lacking_said : List ClientRec → ℕ → Option Said
lacking_said recs number = option_and_then (λ conn. option_and_then (lacking_after recs number conn) (last_text (messages_before (take number recs)))) (open_before recs number)

abbrev pub lacking_in : Option (List ClientRec) → Option Said
lacking_in (Some recs) = option_and_then (lacking_said recs) (tap_packets recs).bad
lacking_in None = None

-- that of the first record that is no packet of the tap at this place
abbrev pub lacking_at : Cluster → ℕ → Option Said
lacking_at c place = lacking_in (client_at c place)

-- its row
abbrev pub lacking_row : Cluster → List TapLines → ℕ → Role → Option RowSeen
lacking_row c lines place role = option_and_then (said_row c lines place role) (lacking_at c place)
