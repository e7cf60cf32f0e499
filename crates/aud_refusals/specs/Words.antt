-- The words of refusals.
use Rattle.std.specs.Prelude.{ℕ, List, ◌++◌, codes}
use Rattle.aud_eio.specs.declared.packet.EioFault.{EioFault}
use Rattle.aud_eio.specs.declared.packet.EioFault.TheVariants as eio
use Rattle.aud_sio.specs.declared.fault.SioFault.{SioFault}
use Rattle.aud_sio.specs.declared.fault.SioFault.TheVariants as sio
use Rattle.aud_refusals.specs.declared.no_packet.Refusal.{Refusal}
use Rattle.aud_refusals.specs.declared.no_packet.Refusal.TheVariants.{Engine, Socket, Payload}
use Rattle.aud_refusals.specs.declared.no_packet.PayloadFault.{PayloadFault}
use Rattle.aud_refusals.specs.declared.no_packet.PayloadFault.TheVariants.{Missing, NoList, NoJson}
use Rattle.aud_refusals.specs.NoJson.{no_json_text}

-- what is wrong with a payload
abbrev pub payload_text : PayloadFault → List ℕ
payload_text Missing = codes "the payload is missing, and the kind wants a list"
payload_text NoList = codes "the payload is JSON, and no list, which the kind wants"
payload_text (NoJson why) = codes "the payload " ++ no_json_text why

-- what is refused; memory is named for the sake of the types alone: want of it is no refusal
abbrev pub engine_text : EioFault → List ℕ
engine_text eio.Empty = codes "the Engine.IO packet has no byte"
engine_text eio.UnknownType = codes "the first byte is no type of an Engine.IO packet"
engine_text eio.BadBase64 = codes "what follows `b` is not base64"
engine_text eio.Memory = codes "memory could not be had"

abbrev pub socket_text : SioFault → List ℕ
socket_text sio.TextWhileBinary = codes "a text comes where attachments are awaited"
socket_text sio.StrayBinary = codes "bytes come where no attachment is awaited"
socket_text sio.Empty = codes "the Socket.IO packet has no byte"
socket_text sio.UnknownType = codes "the first byte of the message is no type of a Socket.IO packet"
socket_text sio.Attachments = codes "no count of attachments from 0 to 64 follows the type"
socket_text sio.AckId = codes "the acknowledgement id has more than 18 digits"
socket_text sio.Payload = codes "the payload is not the JSON that the kind wants"
socket_text sio.Memory = codes "memory could not be had"

abbrev pub refusal_text : Refusal → List ℕ
refusal_text (Engine fault) = engine_text fault
refusal_text (Socket fault) = socket_text fault
refusal_text (Payload fault) = payload_text fault
