use Rattle.std.proofs.Common.{◌≡◌, map, take}
use Rattle.std.specs.Option.{option_copied}
use Rattle.aud_causes.specs.Found.{cause_seen, shown_among}
use Rattle.aud_causes.specs.Records.{place_of}
use Rattle.aud_causes.proofs.found.shown_causes.Given as goal

-- those so far, as they are told
abbrev pub invariant-loop-cause : goal.invariant-loop-cause
invariant-loop-cause l =
    map cause_seen l.causes.items
    ≡ map (shown_among l.sheet.recording.now l.sheet.lines.now (place_of (option_copied l.tap)) l.numbers l.others l.found) (take l.cause-index l.found)
