use Rattle.std.proofs.Common.{rules, subst, List, Option}
use Rattle.aud_verdict.specs.declared.verdict.Verdict.{Verdict}
use Rattle.aud_desk.specs.Slots.{HasVerdict}
use Rattle.aud_desk.proofs.Filled.{none-push}
use Rattle.aud_desk.proofs.slots.places.Goals as goal

pub loop-preserved : goal.loop-preserved
loop-preserved c = record {
  len = search rules;
  empty = λ i verdict has. none-push c.loop.slots.items c.loop.invariant.empty i verdict (subst (λ (s : List (Option Verdict)). HasVerdict s i verdict) c.in_ok-push.ensures.items has);
}
