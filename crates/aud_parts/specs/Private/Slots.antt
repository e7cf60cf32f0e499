-- Of each part the lines of its report, once it came.
use Rattle.std.specs.Prelude.{ℕ, ◌+◌, is_some, nat_lt, if◌then◌else◌, List, [], length, map, drop, slice_get, slice_set, slice_index, unwrap_or, Option, Some, None, option_and_then, Result, Ok, Err}
use Rattle.std.specs.List.{filter_map}
use Rattle.aud_base.specs.Lists.{numbers_from}
use Rattle.aud_node.specs.Stream.{Text}
use Rattle.aud_parts.specs.declared.merging.fault.ReportFault.{ReportFault}
use Rattle.aud_parts.specs.declared.merging.fault.ReportFault.TheVariants.{Doubled}
use Rattle.aud_parts.specs.declared.merging.fault.MergeFault.{MergeFault}
use Rattle.aud_parts.specs.declared.merging.fault.MergeFault.TheVariants.{Missing}
use Rattle.aud_parts.specs.ReportLines.{ReportLine}
use Rattle.aud_parts.specs.Merged.{lines_on, fault_of}

-- the lines of the part's report, if it came
abbrev pub lines_in : List (Option (List ReportLine)) → ℕ → Option (List ReportLine)
lines_in slots part = option_and_then (λ (slot : Option (List ReportLine)). slot) (slice_get slots part)

-- with what a report tells
abbrev pub slots_with : List (Option (List ReportLine)) → Result (ℕ × List ReportLine) ReportFault → List (Option (List ReportLine))
slots_with slots (Err fault) = slots
slots_with slots (Ok of) = if is_some (lines_in slots of.0) then slots else slice_set slots of.0 (Some of.1)

-- what is wrong with a report that tells this
abbrev pub fault_with : List (Option (List ReportLine)) → Result (ℕ × List ReportLine) ReportFault → Option ReportFault
fault_with slots (Err fault) = Some fault
fault_with slots (Ok of) = if is_some (lines_in slots of.0) then Some Doubled else None

-- the lines of the first report on each part
abbrev pub slots_of : List (List Text) → List (List ℕ) → List (Option (List ReportLine))
slots_of parts reports = map (lines_on parts reports) (numbers_from 0 (length parts))

-- what is wrong with each report
abbrev pub report_faults : List (List Text) → List (List ℕ) → List MergeFault
report_faults parts reports = filter_map (fault_of parts reports) (numbers_from 0 (length reports))

-- the part, if it has no report
abbrev pub missing_if : List (Option (List ReportLine)) → ℕ → Option MergeFault
missing_if slots part = if is_some (lines_in slots part) then None else Some (Missing part)

-- the parts that have none
abbrev pub missing_in : List (Option (List ReportLine)) → List MergeFault
missing_in slots = filter_map (missing_if slots) (numbers_from 0 (length slots))

-- all lines of the part's report
abbrev pub all_in : List (Option (List ReportLine)) → ℕ → List ReportLine
all_in slots part = unwrap_or (lines_in slots part) []

-- those that are left, where so many of each part were taken
abbrev pub left_in : List (Option (List ReportLine)) → List ℕ → ℕ → List ReportLine
left_in slots next part = drop (slice_index next part) (all_in slots part)

-- the counts with the next line of the part, if there is one
abbrev pub next_after : List (Option (List ReportLine)) → List ℕ → ℕ → List ℕ
next_after slots next part =
    if nat_lt (slice_index next part) (length (all_in slots part))
    then slice_set next part (slice_index next part + 1) else next
