-- The records of a client tap.
use Rattle.std.specs.Prelude.{ℕ, List, codes, Result, Ok, Err, if◌then◌else◌}
use Rattle.serde_json.specs.Data.{Data}
use Rattle.aud_reader.specs.declared.fault.InputCode.{InputCode}
use Rattle.aud_reader.specs.declared.fault.InputCode.TheVariants.{UnknownKind, Field}
use Rattle.aud_tap.specs.declared.records.ClientRec.{ClientRec}
use Rattle.aud_tap.specs.declared.records.ClientRec.TheVariants.{Conn, TextIn, BytesIn, Poll, TextOut, Lost}
use Rattle.aud_base.specs.Steps.{◌>>=◌, need}
use Rattle.aud_tap.specs.Forms.{is_text}
use Rattle.aud_tap.specs.Json.{text_at}
use Rattle.aud_reader.specs.Fields.{number_at, bytes_at}

-- the number of a connection
abbrev pub connection_of : Data → Result ℕ InputCode
connection_of d = need Field (number_at (codes "c") d)

-- the text that passed
abbrev pub message_of : Data → Result (List ℕ) InputCode
message_of d = need Field (text_at (codes "t") d)

-- the bytes that passed
abbrev pub binary_of : Data → Result (List ℕ) InputCode
binary_of d = need Field (bytes_at (codes "b") d)

-- the client's record of this kind
unfoldable pub client_record_of : List ℕ → Data → Result ClientRec InputCode
client_record_of kind d =
    if is_text kind (codes "conn") then connection_of d >>= (λ c. Ok (Conn c))
    else (if is_text kind (codes "in") then message_of d >>= (λ t. Ok (TextIn t))
    else (if is_text kind (codes "inb") then binary_of d >>= (λ b. Ok (BytesIn b))
    else (if is_text kind (codes "poll") then message_of d >>= (λ t. Ok (Poll t))
    else (if is_text kind (codes "out") then message_of d >>= (λ t. Ok (TextOut t))
    else (if is_text kind (codes "lost") then Ok Lost
    else Err UnknownKind)))))
