use Rattle.std.proofs.Common.{◌≡◌, false, take}
use Rattle.std.specs.List.{list_any}
use Rattle.aud_parts.specs.Private.OwnRecords.{has, names_kept}
use Rattle.aud_parts.proofs.part.own_records.tell_of_own.Given as goal

-- none of the records so far names one of the sessions
abbrev pub invariant-loop-number : goal.invariant-loop-number
invariant-loop-number l = list_any (names_kept (has l.own)) (take l.number l.recs) ≡ false
