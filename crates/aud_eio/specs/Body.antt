-- The packets of a body, and the body of packets (Engine.IO protocol 4, HTTP long-polling).
use Rattle.std.specs.Prelude.{◌≢◌, ℕ, ◌==◌, List, [], ◌∷◌, map, All, Result, Ok, Err}
use Rattle.std.specs.List.{slice_split, join_with_byte}
use Rattle.aud_eio.specs.declared.packet.EioFault.{EioFault}
use Rattle.aud_eio.specs.Packet.{Packet, Control, Message, Lent, Own, engine_packet_of, engine_text}

-- the byte between two packets, 0x1e
abbrev pub separator : ℕ
separator = 30

-- the texts between the separators: one more than there are separators
abbrev pub body_pieces : List ℕ → List (List ℕ)
body_pieces body = slice_split (λ b. b == separator) body

-- a text's packet before those of the texts after it; the first fault stands
abbrev pub before : Result Packet EioFault → Result (List Packet) EioFault → Result (List Packet) EioFault
before (Ok packet) (Ok packets) = Ok (packet ∷ packets)
before (Ok packet) (Err fault) = Err fault
before (Err fault) rest = Err fault

-- the packets of texts, or the fault of the first text that is no packet
abbrev pub packets_of_texts : List (List ℕ) → Result (List Packet) EioFault
packets_of_texts [] = Ok []
packets_of_texts (text ∷ texts) = before (engine_packet_of text) (packets_of_texts texts)

-- the packets of a body
abbrev pub engine_packets_of : List ℕ → Result (List Packet) EioFault
engine_packets_of body = packets_of_texts (body_pieces body)

-- the body of packets: their texts, with a separator between each two
abbrev pub body_of : List Packet → List ℕ
body_of packets = join_with_byte separator (map engine_text packets)

-- no text of the packet holds the separator
abbrev pub FitsBody : Packet → Type 0
FitsBody (Control kind payload) = All (λ b. b ≢ separator) payload
FitsBody (Message text) = All (λ b. b ≢ separator) text
FitsBody (Lent bytes) = Unit {0}
FitsBody (Own bytes) = Unit {0}
