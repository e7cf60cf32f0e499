-- Why a record of the client's tap is no packet, and what to do about it.
use Rattle.std.specs.Prelude.{ℕ, List, [], ◌∷◌, ◌++◌, Option, Some, None, codes, if◌then◌else◌, is_some, option_to_list}
use Rattle.std.specs.Option.{option_and_then, option_map}
use Rattle.aud_tap.specs.declared.records.ClientRec.{ClientRec}
use Rattle.aud_node.specs.Cluster.{Cluster}
use Rattle.aud_node.specs.NodeTaps.{client_at}
use Rattle.aud_client.specs.Received.{TranscriptSeen, transcript_at}
use Rattle.aud_sio.specs.declared.fault.SioFault.TheVariants as sio
use Rattle.aud_refusals.specs.declared.no_packet.NoPacket.{NoPacket}
use Rattle.aud_refusals.specs.declared.no_packet.Refusal.{Refusal}
use Rattle.aud_refusals.specs.declared.no_packet.Refusal.TheVariants.{Engine, Socket, Payload}
use Rattle.aud_refusals.specs.declared.no_packet.PayloadFault.TheVariants as payload
use Rattle.aud_refusals.specs.declared.no_json.NoJson.TheVariants as json
use Rattle.aud_refusals.specs.NoPacket.{no_packet_at}
use Rattle.aud_causes.specs.declared.why.Figure.{Figure}
use Rattle.aud_causes.specs.declared.why.Figure.TheVariants.{Number, Refused}

-- why the first record that is no packet of the client's tap at this place is none
abbrev pub no_packet_in : Cluster → ℕ → Option NoPacket
no_packet_in c client =
    option_and_then
    (λ (recs : List ClientRec). option_and_then (no_packet_at recs) (option_and_then (λ (t : TranscriptSeen). t.bad) (transcript_at c client)))
    (client_at c client)

-- ---- in words

-- what happened
abbrev pub no_packet_words : Option NoPacket → List ℕ
no_packet_words None = codes "A record of the client's tap is no packet."
no_packet_words (Some found) =
    if is_some found.packet then codes "Packet # of a polling body is none: #." else codes "A record of the client's tap is no packet: #."

-- its figures: the number of the packet, of a polling body; and what is refused
abbrev pub no_packet_figures : Option NoPacket → List Figure
no_packet_figures None = []
no_packet_figures (Some found) = option_to_list (option_map Number found.packet) ++ Refused found.refusal ∷ []

-- what to do about the refusal, of a packet with a number where it is of a polling body
abbrev pub refusal_advice : Refusal → Option ℕ → List ℕ
refusal_advice (Engine fault) (Some number) = codes "record bodies of polling as they came, and of answers with status 200 alone."
refusal_advice (Socket sio.TextWhileBinary) packet = codes "look at the records before this one: a packet's attachment is not among them."
refusal_advice (Socket sio.StrayBinary) packet = codes "look at the records before this one: the packet of this attachment is not among them."
refusal_advice (Socket sio.Attachments) packet = codes "send at most 64 attachments with an event."
refusal_advice (Socket sio.AckId) packet = codes "use acknowledgement ids of at most 18 digits."
refusal_advice (Payload (payload.NoJson (json.Deep depth))) packet = codes "send lists and objects that nest at most 127 deep."
refusal_advice (Payload (payload.NoJson (json.HalfPair at))) packet = codes "send texts of whole characters: cut no surrogate pair in two."
refusal_advice (Payload (payload.NoJson (json.Number at))) packet = codes "send numbers that a 64-bit float holds, and others as texts."
refusal_advice (Payload (payload.NoJson why)) packet =
    codes "send JSON (RFC 8259), which has no NaN and no Infinity; record a text as it came, to its end."
refusal_advice (Payload payload.Missing) packet = codes "send an event's name and its arguments as a list."
refusal_advice (Payload payload.NoList) packet = codes "send an event's name and its arguments as a list."
refusal_advice refusal packet = codes "record what came as it came: a text as a text, and bytes as bytes."

-- what to do
abbrev pub advice : Option NoPacket → List ℕ
advice None = codes "record what came as it came: a text as a text, and bytes as bytes."
advice (Some found) = refusal_advice found.refusal found.packet
