-- Attachments that are awaited, message after message.
use Rattle.std.specs.Prelude.{ℕ, ◌-◌, List, [], ◌∷◌}
use Rattle.aud_sio.specs.Message.{Message, Text, Bytes}
use Rattle.aud_sio.specs.Packet.{packet_of}
use Rattle.aud_rows.specs.Lacking.{attachments_in}

-- the place of the last text, and how many attachments of its packet did not come, after these messages
abbrev pub awaited : ℕ × ℕ → List (ℕ × Message) → ℕ × ℕ
awaited last [] = last
awaited last ((place, Text text) ∷ l) = awaited (place, attachments_in (packet_of text)) l
awaited last ((place, Bytes blob) ∷ l) = awaited (last.0, last.1 - 1) l
