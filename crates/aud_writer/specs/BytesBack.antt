-- The bytes of a record, and that they are read back.
use Rattle.std.specs.Prelude.{◌≡◌, ℕ, List, [], ◌∷◌, Some}
use Rattle.serde_json.specs.Data.{array, Items, no_items, item, Members, put}
use Rattle.aud_tap.specs.declared.records.StreamRec.{StreamRec}
use Rattle.aud_tap.specs.declared.records.StreamRec.TheVariants.{Ev, Other}
use Rattle.aud_tap.specs.declared.records.ClientRec.{ClientRec}
use Rattle.aud_tap.specs.declared.records.ClientRec.TheVariants.{Conn, TextIn, BytesIn, Poll, TextOut, Lost}
use Rattle.aud_tap.specs.declared.records.Rec.{Rec}
use Rattle.aud_tap.specs.declared.records.Rec.TheVariants.{Header, Stream, Node, Client}
use Rattle.aud_reader.specs.Fields.{decoded}
use Rattle.aud_writer.specs.Written.{encoded}

-- a list put under a key, unless it is empty
abbrev pub put_unless_empty : List ℕ → Items → Members → Members
put_unless_empty key no_items ms = ms
put_unless_empty key (item d ds) ms = put key (array (item d ds)) ms

-- each of these decodes to the bytes that it was made of
abbrev pub DecodeBack : List (List ℕ) → Type 0
DecodeBack [] = Unit {0}
DecodeBack (b ∷ bs) = (decoded (encoded b) ≡ Some b) × DecodeBack bs

-- in one of the stream: its attachments
abbrev pub stream_bytes : StreamRec → List (List ℕ)
stream_bytes (Ev e) = e.bin
stream_bytes (Other off) = []

-- in one of a client: the binary message
abbrev pub client_bytes : ClientRec → List (List ℕ)
client_bytes (Conn c) = []
client_bytes (TextIn t) = []
client_bytes (BytesIn b) = b ∷ []
client_bytes (Poll t) = []
client_bytes (TextOut t) = []
client_bytes Lost = []

-- in any
abbrev pub blobs_of : Rec → List (List ℕ)
blobs_of (Header of v) = []
blobs_of (Stream r) = stream_bytes r
blobs_of (Node r) = []
blobs_of (Client r) = client_bytes r
