-- The records of a stream tap.
use Rattle.std.specs.Prelude.{ℕ, nat_le, List, length, codes, Result, Ok, Err, if◌then◌else◌}
use Rattle.serde_json.specs.Data.{Data}
use Rattle.aud_reader.specs.declared.fault.InputCode.{InputCode}
use Rattle.aud_reader.specs.declared.fault.InputCode.TheVariants.{UnknownKind, Field, Limit}
use Rattle.aud_tap.specs.declared.records.StreamRec.{StreamRec}
use Rattle.aud_tap.specs.declared.records.StreamRec.TheVariants.{Ev, Other}
use Rattle.aud_base.specs.Steps.{◌>>=◌, need, guard}
use Rattle.aud_tap.specs.Limits.{fits, fit_rooms, max_offset, max_namespace, max_attachments}
use Rattle.aud_tap.specs.Forms.{is_text}
use Rattle.aud_tap.specs.Json.{text_at}
use Rattle.aud_reader.specs.Fields.{id_at, bounded_id_at, namespace_at, texts_at, blobs_at}

-- the rooms that an event is for, those that are excepted, and its attachments
unfoldable pub lists_of : Data → Result (List (List ℕ) × List (List ℕ) × List (List ℕ)) InputCode
lists_of d = do
  rooms ← need Field (texts_at (codes "rooms") d)
  except ← need Field (texts_at (codes "except") d)
  bin ← need Field (blobs_at (codes "bin") d)
  Ok (rooms, except, bin)

-- the event of these fields, within their limits
unfoldable pub bounded_event : List ℕ → List ℕ → List ℕ → List (List ℕ) × List (List ℕ) × List (List ℕ) → Result StreamRec InputCode
bounded_event off nsp text lists = do
  offset_fits ← guard Limit (fits max_offset off)
  namespace_fits ← guard Limit (fits max_namespace nsp)
  rooms_fit ← guard Limit (fit_rooms lists.0)
  except_fit ← guard Limit (fit_rooms lists.1)
  attachments_fit ← guard Limit (nat_le (length lists.2) max_attachments)
  Ok (Ev (record { off = off; nsp = nsp; rooms = lists.0; except = lists.1; text = text; bin = lists.2 }))

-- an event
unfoldable pub event_of : Data → Result StreamRec InputCode
event_of d = do
  off ← need Field (id_at (codes "off") d)
  nsp ← need Field (namespace_at (codes "nsp") d)
  text ← need Field (text_at (codes "text") d)
  lists ← lists_of d
  bounded_event off nsp text lists

-- an entry that is no event
abbrev pub other_of : Data → Result StreamRec InputCode
other_of d = bounded_id_at max_offset (codes "off") d >>= (λ off. Ok (Other off))

-- the stream's record of this kind
unfoldable pub stream_record_of : List ℕ → Data → Result StreamRec InputCode
stream_record_of kind d =
    if is_text kind (codes "ev") then event_of d
    else (if is_text kind (codes "other") then other_of d
    else Err UnknownKind)
