-- What an assembler holds and answers.
use Rattle.std.specs.Prelude.{◌≡◌, ℕ, Bool, true, false, List, [], ◌∷◌, ◌++◌, map, Option, Some, None, Result, Ok, Err}
use Rattle.aud_sio.specs.declared.fault.SioFault.{SioFault}
use Rattle.aud_sio.specs.declared.fault.SioFault.TheVariants.{Memory}
use Rattle.aud_sio.specs.declared.whole.Blob.{Blob as BlobCode}
use Rattle.aud_sio.specs.declared.whole.Blob.TheVariants as code
use Rattle.aud_sio.specs.declared.whole.Whole.{Whole}
use Rattle.aud_sio.specs.declared.half.Half.{Half}
use Rattle.aud_sio.specs.Packet.{packet_view, has_payload}
use Rattle.aud_sio.specs.Message.{Blob, Lent, Own, Message, Text, Bytes, at}
use Rattle.aud_sio.specs.Wholes.{WholeSeen, Answer, wholes_of}

-- what contracts see of an attachment
abbrev pub blob_view : BlobCode → Blob
blob_view (code.Lent bytes) = Lent bytes.now
blob_view (code.Own bytes) = Own bytes.items

-- what contracts see of a whole packet
abbrev pub whole_view : Whole → WholeSeen
whole_view w = record { text = w.text.now; packet = packet_view w.packet; bin = map blob_view w.bin.items }

-- the messages that a packet was put together from
abbrev pub messages_of_whole : Whole → List Message
messages_of_whole w = Text w.text.now ∷ map Bytes (map blob_view w.bin.items)

-- the messages that an assembler holds: none at rest
abbrev pub messages_held : Option Half → List Message
messages_held None = []
messages_held (Some half) = messages_of_whole half.whole

-- what an assembler that holds these messages gives, where more come: the place of those held doesn't show, since more
-- are awaited
abbrev pub wholes_after : List Message → List (ℕ × Message) → List (ℕ × Answer)
wholes_after held l = wholes_of (at 0 held ++ l)

-- a packet given is one answer
abbrev pub answer_of : Option Whole → List Answer
answer_of None = []
answer_of (Some w) = Ok (whole_view w) ∷ []

-- what is answered to messages, and what comes after that, is what they give after those held
abbrev pub Continues : List Message → List Message → List Answer → List Message → Type 0
Continues old messages answers new = (place : ℕ) (l : List (ℕ × Message))
    → wholes_after old (at place messages ++ l) ≡ at place answers ++ wholes_after new l

-- a refusal is one answer; nothing is said of a call for which memory ran out
abbrev pub Feeds : List Message → List Message → Result (Option Whole) SioFault → List Message → Type 0
Feeds old messages (Ok given) new = Continues old messages (answer_of given) new
Feeds old messages (Err fault) new = ¬ (fault ≡ Memory) → Continues old messages (Err fault ∷ []) new

-- what takes memory, where these messages are held and those come: at rest the payload of a text, and else an
-- attachment
abbrev pub takes_memory : List Message → List Message → Bool
takes_memory [] (Text text ∷ messages) = has_payload text
takes_memory (message ∷ held) (Bytes blob ∷ messages) = true
takes_memory held messages = false

-- nothing comes of what is held, unless more messages come
abbrev pub Waits : List Message → Type 0
Waits held = wholes_after held [] ≡ []
