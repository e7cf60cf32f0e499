-- The rows of long evidence: of more than 200 the first 100 and the last 100, and of those between them the first at
-- which the fault shows, behind the first earlier record that it contradicts.
use Rattle.std.specs.Prelude.{ℕ, ◌-◌, Bool, true, false, List, ◌++◌, drop, find, length, option_to_list, take}
use Rattle.aud_rows.specs.declared.row.Row.{Row}
use Rattle.aud_rows.specs.declared.row.Role.{Role}
use Rattle.aud_rows.specs.declared.row.Role.TheVariants.{Fault, Earlier}
use Rattle.aud_explanation.specs.Long.{first_shown, last_shown, left_out}

-- the fault shows at such a record
abbrev pub is_fault : Role → Bool
is_fault Fault = true
is_fault role = false

-- the fault contradicts such a record
abbrev pub is_earlier : Role → Bool
is_earlier Earlier = true
is_earlier role = false

abbrev pub is_fault_row : Row → Bool
is_fault_row row = is_fault row.role

abbrev pub is_earlier_row : Row → Bool
is_earlier_row row = is_earlier row.role

-- those between the first 100 and the last 100
unfoldable pub rows_between : List Row → List Row
rows_between rows = take (left_out rows) (drop 100 rows)

-- those of them that are shown all the same, two at most
unfoldable pub kept_rows : List Row → List Row
kept_rows rows = option_to_list (find is_earlier_row (rows_between rows)) ++ option_to_list (find is_fault_row (rows_between rows))

-- how many are left out
unfoldable pub rows_left : List Row → ℕ
rows_left rows = left_out rows - length (kept_rows rows)

-- all that are shown
unfoldable pub rows_shown : List Row → List Row
rows_shown rows = first_shown rows ++ kept_rows rows ++ last_shown rows
