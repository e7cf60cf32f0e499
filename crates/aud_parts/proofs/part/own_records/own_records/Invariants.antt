use Rattle.std.proofs.Common.{◌≡◌, filter, take}
use Rattle.aud_parts.specs.LeftOut.{keeps_record}
use Rattle.aud_parts.specs.Private.OwnRecords.{has}
use Rattle.aud_parts.proofs.part.own_records.own_records.Given as goal

-- what is left of the records so far
abbrev pub invariant-loop-number : goal.invariant-loop-number
invariant-loop-number l = l.left ≡ filter (keeps_record (has l.own)) (take l.number l.recs)
