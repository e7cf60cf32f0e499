use Rattle.std.proofs.Common.{◌≡◌, drop}
use Rattle.std.specs.List.{list_all}
use Rattle.aud_parts.specs.LeftOut.{keeps_record}
use Rattle.aud_parts.specs.Plan.{is_in}
use Rattle.aud_parts.proofs.plan.closed.stays_whole.Given as goal

abbrev pub invariant-loop-number : goal.invariant-loop-number
invariant-loop-number l =
    list_all (keeps_record (is_in l.plan l.part)) (drop l.number l.recs) ≡ list_all (keeps_record (is_in l.plan l.part)) l.recs
