-- The connections of a client's tap, by the records at which they begin and are lost.
use Rattle.std.specs.Prelude.{ℕ, suc, ◌-◌, nat_lt, nat_le, not, Bool, true, false, List, [], ◌∷◌, length, drop, Option, Some, None, slice_get, if◌then◌else◌}
use Rattle.std.specs.List.{filter}
use Rattle.std.specs.Option.{option_and_then}
use Rattle.aud_tap.specs.declared.records.ClientRec.{ClientRec}
use Rattle.aud_tap.specs.declared.records.ClientRec.TheVariants.{Conn, Lost}
use Rattle.aud_base.specs.Lists.{numbers_from}

-- there is a record, and it begins a connection, or loses it
abbrev pub is_mark : Option ClientRec → Bool
is_mark (Some (Conn c)) = true
is_mark (Some Lost) = true
is_mark _ = false

-- the numbers, ascending, of the records that do
abbrev pub marks_of : List ClientRec → List ℕ
marks_of recs = filter (λ number. is_mark (slice_get recs number)) (numbers_from 0 (length recs))

-- the first mark past the number
abbrev pub first_past : ℕ → List ℕ → Option ℕ
first_past number marks = slice_get (filter (λ mark. not (nat_le mark number)) marks) 0

abbrev pub last_of : List ℕ → Option ℕ
last_of numbers = slice_get numbers (length numbers - 1)

-- the last mark before the number
abbrev pub last_before : ℕ → List ℕ → Option ℕ
last_before number marks = last_of (filter (λ mark. nat_lt mark number) marks)

-- the number that a `conn` gives its connection
abbrev pub conn_of : Option ClientRec → Option ℕ
conn_of (Some (Conn c)) = Some c
conn_of _ = None

-- the number of the connection that goes on in front of the record with this number: that of the last mark before it,
-- unless the connection was lost there
abbrev pub open_before : List ClientRec → ℕ → Option ℕ
open_before recs number = option_and_then (λ mark. conn_of (slice_get recs mark)) (last_before number (marks_of recs))

-- ---- the connection that goes on after records

-- the number of the record after the last mark, where the connection begins at this one and these come next, the first
-- of which has this number
abbrev pub begin_from : ℕ → ℕ → List ClientRec → ℕ
begin_from begin number [] = begin
begin_from begin number (rec ∷ recs) = begin_from (if is_mark (Some rec) then suc number else begin) (suc number) recs

-- the records of these past the last mark
abbrev pub connection_of : List ClientRec → List ClientRec
connection_of recs = drop (begin_from 0 0 recs) recs
