use Rattle.std.proofs.Common.{◌≡◌, flat_map, option_to_list, take}
use Rattle.std.specs.Option.{option_copied}
use Rattle.aud_causes.specs.Records.{lines_at, place_of}
use Rattle.aud_causes.proofs.lines.lines_at.Given as goal

-- the lines of those so far
abbrev pub invariant-loop-record : goal.invariant-loop-record
invariant-loop-record l =
    l.found.items ≡ lines_at l.sheet.recording.now l.sheet.lines.now (place_of (option_copied l.tap)) l.numbers (flat_map option_to_list (take l.record-index l.records))
