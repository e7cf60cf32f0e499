use Rattle.std.proofs.Common.{◌≡◌, ◌++◌, None, drop}
use Rattle.aud_causes.specs.Twice.{twice_causes}
use Rattle.aud_causes.proofs.twice.push_twice.Given as goal

-- those so far, with those of the records to come, come after what was there
abbrev pub invariant-loop-mark : goal.invariant-loop-mark
invariant-loop-mark l =
    l.found.items ++ twice_causes l.turns.begins.items l.turns.ended.items l.as_often l.before (drop l.mark-index l.marks)
    ≡ l.initial.found.items ++ twice_causes l.turns.begins.items l.turns.ended.items l.as_often None l.marks
