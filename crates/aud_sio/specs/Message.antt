-- The messages that Engine.IO packets carry.
use Rattle.std.specs.Prelude.{ℕ, List, [], ◌∷◌, map}
use Rattle.aud_eio.specs.Packet as eio

-- an attachment, by its bytes: they were borrowed, or they are of their own memory
pub data Blob : Type 0 where
  Lent : List ℕ → Blob
  Own : List ℕ → Blob

-- the bytes of an attachment
abbrev pub blob_bytes : Blob → List ℕ
blob_bytes (Lent bytes) = bytes
blob_bytes (Own bytes) = bytes

-- a message of text or of bytes
pub data Message : Type 0 where
  Text : List ℕ → Message
  Bytes : Blob → Message

-- the messages of an Engine.IO packet: one, or none where it is a control packet
abbrev pub messages_of : eio.Packet → List Message
messages_of (eio.Control kind payload) = []
messages_of (eio.Message text) = Text text ∷ []
messages_of (eio.Lent bytes) = Bytes (Lent bytes) ∷ []
messages_of (eio.Own bytes) = Bytes (Own bytes) ∷ []

-- each of these at one place: a place is any number that the reader of messages counts by
abbrev pub at : {A : Type 0} → ℕ → List A → List (ℕ × A)
at place xs = map (λ x. (place, x)) xs
