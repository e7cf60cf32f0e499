-- The text of a certificate: JSON without blanks, keys in byte order.
use Rattle.std.specs.Prelude.{ℕ, List, [], ◌∷◌, codes}
use Rattle.serde_json.specs.Data.{Data, number, string, array, object, unsigned, Items, no_items, item, no_members, member}
use Rattle.serde_json.specs.Written.{compact_text}
use Rattle.aud_node.specs.Stream.{Text}
use Rattle.aud_rooms.specs.Spans.{RoomSpan}
use Rattle.aud_cert.specs.Certificate.{TurnSeen, CertificateSeen}

-- the items that stand for the elements of a list
abbrev pub items : {A : Type 0} → (A → Data) → List A → Items
items data_of [] = no_items
items data_of (x ∷ xs) = item (data_of x) (items data_of xs)

-- a whole number
abbrev pub whole : ℕ → Data
whole n = number (unsigned n)

-- `[name,..]`: a name, and then whole numbers
abbrev pub row_data : Text → List ℕ → Data
row_data name numbers = array (item (string name) (items whole numbers))

-- `[room,first,last]`
abbrev pub span_data : RoomSpan → Data
span_data s = row_data s.room (s.first ∷ s.last ∷ [])

-- `[node,from,to,low,high]`
abbrev pub turn_data : TurnSeen → Data
turn_data t = row_data t.node (t.from ∷ t.to ∷ t.low ∷ t.high ∷ [])

-- `{"client":..,"pid":..,"spans":[..],"turns":[..]}`
abbrev pub certificate_data : CertificateSeen → Data
certificate_data cert =
    object (member (codes "client") (string cert.client)
    (member (codes "pid") (string cert.pid)
    (member (codes "spans") (array (items span_data cert.spans))
    (member (codes "turns") (array (items turn_data cert.turns)) no_members))))

-- the certificate's text
abbrev pub certificate_text : CertificateSeen → Text
certificate_text cert = compact_text (certificate_data cert)
