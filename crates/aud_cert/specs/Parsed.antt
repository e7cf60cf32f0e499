-- What the text of a certificate tells, before it is looked up in the logs.
use Rattle.std.specs.Prelude.{ℕ, List, [], ◌∷◌, codes, is_none, option_and_then, Result, Ok}
use Rattle.serde_json.specs.Data.{Data, Items, no_items, item}
use Rattle.serde_json.specs.Find.{get, at, as_str, as_array, as_number, as_u64}
use Rattle.aud_tap.specs.Json.{text_at}
use Rattle.aud_node.specs.Stream.{Text}
use Rattle.aud_rooms.specs.Spans.{RoomSpan}
use Rattle.aud_cert.specs.declared.text_fault.CertFault.{CertFault}
use Rattle.aud_cert.specs.declared.text_fault.CertFault.TheVariants.{Syntax}
use Rattle.aud_cert.specs.Steps.{◌>>=◌, need, guard}

-- a turn, without its records
pub record ParsedTurn : Type 0 where
  pub node : Text
  pub from : ℕ
  pub to : ℕ
  pub low : ℕ
  pub high : ℕ

-- a certificate, without the records of its turns
pub record ParsedCertificate : Type 0 where
  pub pid : Text
  pub client : Text
  pub turns : List ParsedTurn
  pub spans : List RoomSpan

-- the text at this place of an array; places count from 0
abbrev pub text_in : ℕ → Data → Result Text CertFault
text_in place d = need Syntax (option_and_then as_str (at place d))

-- the whole number, from 0 to 2^64 - 1, at this place of an array
abbrev pub number_in : ℕ → Data → Result ℕ CertFault
number_in place d = need Syntax (option_and_then as_u64 (option_and_then as_number (at place d)))

-- an array has nothing at this place
abbrev pub nothing_in : ℕ → Data → Result (Unit {0}) CertFault
nothing_in place d = guard Syntax (is_none (at place d))

-- `[room,first,last]`
unfoldable pub parsed_span : Data → Result RoomSpan CertFault
parsed_span d = do
  room ← text_in 0 d
  first ← number_in 1 d
  last ← number_in 2 d
  no_more ← nothing_in 3 d
  Ok (record { room = room; first = first; last = last })

-- `[node,from,to,low,high]`
unfoldable pub parsed_turn : Data → Result ParsedTurn CertFault
parsed_turn d = do
  node ← text_in 0 d
  from ← number_in 1 d
  to ← number_in 2 d
  low ← number_in 3 d
  high ← number_in 4 d
  no_more ← nothing_in 5 d
  Ok (record { node = node; from = from; to = to; low = low; high = high })

-- what each of the items tells
abbrev pub each_item : {A : Type 0} → (Data → Result A CertFault) → Items → Result (List A) CertFault
each_item step no_items = Ok []
each_item step (item d ds) = step d >>= (λ x. each_item step ds >>= (λ xs. Ok (x ∷ xs)))

-- the items of the array under this key
abbrev pub items_at : List ℕ → Data → Result Items CertFault
items_at key d = need Syntax (option_and_then as_array (get key d))

-- `{"client":..,"pid":..,"spans":[..],"turns":[..]}`, in any order and with any other keys
unfoldable pub parsed_certificate : Data → Result ParsedCertificate CertFault
parsed_certificate d = do
  client ← need Syntax (text_at (codes "client") d)
  pid ← need Syntax (text_at (codes "pid") d)
  span_items ← items_at (codes "spans") d
  spans ← each_item parsed_span span_items
  turn_items ← items_at (codes "turns") d
  turns ← each_item parsed_turn turn_items
  Ok (record { pid = pid; client = client; turns = turns; spans = spans })
