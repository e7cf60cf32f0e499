-- The texts that a simulated cluster makes. Positions and sessions count from 1.
use Rattle.std.specs.Prelude.{ℕ, zero, suc, ◌==◌, List, [], ◌∷◌, ◌++◌, codes, if◌then◌else◌}
use Rattle.std.specs.Fmt.{decimal}

-- a letter and a number: the names of taps, and the pids and sids of sessions
abbrev pub name_of : List ℕ → ℕ → List ℕ
name_of letter number = letter ++ decimal number

-- the tap of the stream
abbrev pub stream_name : List ℕ
stream_name = codes "st"

-- the namespace of everything
abbrev pub main_namespace : List ℕ
main_namespace = codes "/"

-- the offset of the entry at a position
abbrev pub offset_at : ℕ → List ℕ
offset_at position = decimal position ++ codes "-0"

-- ---- packets (Socket.IO protocol 5, "Packet encoding")

-- EVENT, or BINARY_EVENT with the count of its attachments
abbrev pub event_head : ℕ → List ℕ
event_head count = if count == 0 then codes "2" else codes "5" ++ decimal count ++ codes "-"

-- what stands in a payload for an attachment
abbrev pub placeholder : ℕ → List ℕ
placeholder number = codes ",{\"_placeholder\":true,\"num\":" ++ decimal number ++ codes "}"

-- of so many attachments, from number 0
abbrev pub placeholders : ℕ → List ℕ
placeholders zero = []
placeholders (suc count) = placeholders count ++ placeholder count

-- an event of the stream: its word, what stands for its attachments, and its offset
abbrev pub event_text : List ℕ → ℕ → ℕ → List ℕ
event_text word count position =
    event_head count ++ (codes "[\"" ++ word ++ codes "\"") ++ placeholders count ++ (codes ",\"" ++ decimal position ++ codes "-0\"]")

-- an event of a word alone
abbrev pub volatile_text : List ℕ → List ℕ
volatile_text word = codes "2[\"" ++ word ++ codes "\"]"

-- the server's CONNECT: a sid and a pid
abbrev pub reply_text : List ℕ → List ℕ → List ℕ
reply_text sid pid = codes "0{\"sid\":\"" ++ sid ++ codes "\",\"pid\":\"" ++ pid ++ codes "\"}"

-- the client's CONNECT that asks for the session of a pid, from the offset at a position on
abbrev pub asking_text : List ℕ → ℕ → List ℕ
asking_text pid position = codes "0{\"pid\":\"" ++ pid ++ codes "\",\"offset\":\"" ++ offset_at position ++ codes "\"}"

-- ---- Engine.IO protocol 4

-- a packet as a message: its type digit before it
abbrev pub message : List ℕ → List ℕ
message text = 52 ∷ text

-- the same with `x` in place of the digit, which is no packet
abbrev pub garbled_message : List ℕ → List ℕ
garbled_message text = 120 ∷ text
