-- What comes of a packet that awaits attachments.
use Rattle.std.specs.Prelude.{◌≡◌, ◌-◌, ℕ, length, List, ◌++◌}
use Rattle.aud_sio.specs.Message.{Message, at}
use Rattle.aud_sio.specs.Wholes.{WholeSeen, Answer, answer_to, last_place, consumed, wholes_past}
use Rattle.aud_sio.specs.Assembly.{wholes_after}

-- what comes of a packet that awaits so many attachments more, whose last message so far stands at a place
abbrev pub gives_with : ℕ → WholeSeen → ℕ → List (ℕ × Message) → List (ℕ × Answer)
gives_with place whole count l = at (last_place place count l) (answer_to whole count l) ++ wholes_past (consumed count l) l

-- what comes of a packet, with the attachments that it awaits, is an answer at once and what is held then gives
abbrev pub KeepsAwaited : WholeSeen → List Answer → List Message → Type 0
KeepsAwaited whole answers new = (place : ℕ) (l : List (ℕ × Message))
    → gives_with place whole (whole.packet.attachments - length whole.bin) l ≡ at place answers ++ wholes_after new l
