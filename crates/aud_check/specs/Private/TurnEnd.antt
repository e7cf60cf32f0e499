-- How a turn ends, as the code says it.
use Rattle.aud_rooms.specs.Turns as turns
use Rattle.aud_check.specs.declared.turn_end.End.{End}
use Rattle.aud_check.specs.declared.turn_end.End.TheVariants.{Break, Gone, Log}
use Rattle.aud_check.specs.declared.turn_end.Part.{Part}
use Rattle.aud_check.specs.declared.turn_end.Part.TheVariants.{Inner, Last, Foreign}

-- what contracts see of an end
abbrev pub end_seen : End → turns.End
end_seen Break = turns.ByBreak
end_seen Gone = turns.ByGone
end_seen Log = turns.ByLog

-- what contracts see of a part
abbrev pub part_seen : Part → turns.Part
part_seen Inner = turns.Inner
part_seen (Last end) = turns.Last (end_seen end)
part_seen Foreign = turns.Foreign
