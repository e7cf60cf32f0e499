-- The whole packets of a list of messages: each packet with the attachments after its text (Socket.IO protocol 5,
-- "Packet encoding"). Each message stands at a place, and each answer at that of the last message that it consumed.
use Rattle.std.specs.Prelude.{ℕ, zero, suc, nat_le, nat_lt, List, [], ◌∷◌, ◌++◌, length, take, map, slice_index, Result, Ok, Err, if◌then◌else◌}
use Rattle.aud_sio.specs.declared.fault.SioFault.{SioFault}
use Rattle.aud_sio.specs.declared.fault.SioFault.TheVariants.{TextWhileBinary, StrayBinary}
use Rattle.aud_sio.specs.Message.{Blob, Message, Text, Bytes, at}
use Rattle.aud_sio.specs.Packet.{PacketSeen, packet_of}

-- a packet, its text, and its attachments
pub record WholeSeen : Type 0 where
  pub text : List ℕ
  pub packet : PacketSeen
  pub bin : List Blob

-- a whole packet, or a refusal
abbrev pub Answer : Type 0
Answer = Result WholeSeen SioFault

-- the bytes that come before the next text
abbrev pub leading_bytes : List (ℕ × Message) → List Blob
leading_bytes [] = []
leading_bytes ((place, Text text) ∷ l) = []
leading_bytes ((place, Bytes blob) ∷ l) = blob ∷ leading_bytes l

-- what a packet gives that awaits so many attachments, where these messages come next: it is whole, where so many bytes
-- lead; refused, where a text comes before that; and nothing, where the list ends before that
abbrev pub answer_to : WholeSeen → ℕ → List (ℕ × Message) → List Answer
answer_to whole count l =
    if nat_le count (length (leading_bytes l))
    then Ok (record whole { bin = whole.bin ++ take count (leading_bytes l) }) ∷ []
    else (if nat_lt (length (leading_bytes l)) (length l) then Err TextWhileBinary ∷ [] else [])

-- how many messages such a packet consumes: its attachments, or up to the text that comes before they are all there
abbrev pub consumed : ℕ → List (ℕ × Message) → ℕ
consumed count l = if nat_le count (length (leading_bytes l)) then count else suc (length (leading_bytes l))

-- the place of the last message consumed, where the packet's text has this place: the text's own, where nothing is
-- awaited
abbrev pub last_place : ℕ → ℕ → List (ℕ × Message) → ℕ
last_place place count l = slice_index (place ∷ map (λ message. message.0) l) (consumed count l)

-- what the messages give, of which so many are consumed already: bytes in front are stray, a text in front is a
-- packet or a refusal
abbrev pub wholes_past : ℕ → List (ℕ × Message) → List (ℕ × Answer)
wholes_past skip [] = []
wholes_past (suc skip) (message ∷ l) = wholes_past skip l
wholes_past zero ((place, Bytes blob) ∷ l) = (place, Err StrayBinary) ∷ wholes_past zero l
wholes_past zero ((place, Text text) ∷ l) = elim (packet_of text) [
  | Ok packet ↦
      at (last_place place packet.attachments l) (answer_to (record { text = text; packet = packet; bin = [] }) packet.attachments l)
      ++ wholes_past (consumed packet.attachments l) l
  | Err fault ↦ (place, Err fault) ∷ wholes_past zero l
]

-- what the messages give
abbrev pub wholes_of : List (ℕ × Message) → List (ℕ × Answer)
wholes_of l = wholes_past zero l
