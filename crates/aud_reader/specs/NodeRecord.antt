-- The records of a node tap.
use Rattle.std.specs.Prelude.{ℕ, nat_le, List, codes, Bool, true, not, Option, Some, None, Result, Ok, Err, if◌then◌else◌}
use Rattle.serde_json.specs.Data.{Data}
use Rattle.aud_reader.specs.declared.fault.InputCode.{InputCode}
use Rattle.aud_reader.specs.declared.fault.InputCode.TheVariants.{UnknownKind, Field, Limit}
use Rattle.aud_tap.specs.declared.records.Version.{Version}
use Rattle.aud_tap.specs.declared.records.Version.TheVariants.{One, Two}
use Rattle.aud_tap.specs.declared.records.NodeRec.{NodeRec}
use Rattle.aud_tap.specs.declared.records.NodeRec.TheVariants.{Start, Take, Takes, Opened, Join, Leave, Broke, Back, Gone}
use Rattle.aud_base.specs.Steps.{◌>>=◌, need, guard}
use Rattle.aud_tap.specs.Limits.{fits, max_offset, max_id, max_room, max_namespace, max_turn}
use Rattle.aud_tap.specs.Forms.{is_text}
use Rattle.aud_tap.specs.Json.{text_at}
use Rattle.aud_reader.specs.Fields.{number_at, id_at, id_or_null_at, bounded_id_at, namespace_at}

-- an offset that is there is within its limit
abbrev pub fits_if_there : Option (List ℕ) → Bool
fits_if_there None = true
fits_if_there (Some off) = fits max_offset off

-- the node begins: `off` is null for the stream's begin, and may not be absent
unfoldable pub start_of : Data → Result NodeRec InputCode
start_of d = do
  off ← need Field (id_or_null_at (codes "off") d)
  offset_fits ← guard Limit (fits_if_there off)
  Ok (Start off)

-- the node takes an entry
abbrev pub take_of : Data → Result NodeRec InputCode
take_of d = bounded_id_at max_offset (codes "off") d >>= (λ off. Ok (Take off))

-- the node takes every entry up to this one
abbrev pub takes_of : Data → Result NodeRec InputCode
takes_of d = bounded_id_at max_offset (codes "off") d >>= (λ off. Ok (Takes off))

-- a session opens
unfoldable pub open_of : Data → Result NodeRec InputCode
open_of d = do
  pid ← need Field (id_at (codes "pid") d)
  sid ← need Field (id_at (codes "sid") d)
  nsp ← need Field (namespace_at (codes "nsp") d)
  pid_fits ← guard Limit (fits max_id pid)
  sid_fits ← guard Limit (fits max_id sid)
  namespace_fits ← guard Limit (fits max_namespace nsp)
  Ok (Opened pid sid nsp)

-- a pid and a room
unfoldable pub member_of : Data → Result (List ℕ × List ℕ) InputCode
member_of d = do
  pid ← need Field (id_at (codes "pid") d)
  room ← need Field (text_at (codes "room") d)
  pid_fits ← guard Limit (fits max_id pid)
  room_fits ← guard Limit (fits max_room room)
  Ok (pid, room)

-- a session joins a room
abbrev pub join_of : Data → Result NodeRec InputCode
join_of d = member_of d >>= (λ m. Ok (Join m.0 m.1))

-- a session leaves a room
abbrev pub leave_of : Data → Result NodeRec InputCode
leave_of d = member_of d >>= (λ m. Ok (Leave m.0 m.1))

-- a pid and the number of a turn
unfoldable pub pid_and_turn : Data → Result (List ℕ × ℕ) InputCode
pid_and_turn d = do
  pid ← need Field (id_at (codes "pid") d)
  turn ← need Field (number_at (codes "turn") d)
  pid_fits ← guard Limit (fits max_id pid)
  turn_fits ← guard Limit (nat_le turn max_turn)
  Ok (pid, turn)

-- a connection broke
abbrev pub break_of : Data → Result NodeRec InputCode
break_of d = pid_and_turn d >>= (λ t. Ok (Broke t.0 t.1))

-- a session was recovered
abbrev pub back_of : Data → Result NodeRec InputCode
back_of d = pid_and_turn d >>= (λ t. Ok (Back t.0 t.1))

-- a session is over
abbrev pub gone_of : Data → Result NodeRec InputCode
gone_of d = bounded_id_at max_id (codes "pid") d >>= (λ pid. Ok (Gone pid))

-- a node's tap of this version may have records of this kind, if any node's tap may: `takes` is of version 2
abbrev pub is_in_version : Version → List ℕ → Bool
is_in_version One kind = not (is_text kind (codes "takes"))
is_in_version Two kind = true

-- the node's record of this kind, in either version
unfoldable pub node_record_of : List ℕ → Data → Result NodeRec InputCode
node_record_of kind d =
    if is_text kind (codes "start") then start_of d
    else (if is_text kind (codes "take") then take_of d
    else (if is_text kind (codes "takes") then takes_of d
    else (if is_text kind (codes "open") then open_of d
    else (if is_text kind (codes "join") then join_of d
    else (if is_text kind (codes "leave") then leave_of d
    else (if is_text kind (codes "break") then break_of d
    else (if is_text kind (codes "back") then back_of d
    else (if is_text kind (codes "gone") then gone_of d
    else Err UnknownKind))))))))
