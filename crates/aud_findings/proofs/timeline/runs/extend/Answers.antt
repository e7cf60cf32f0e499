use Rattle.std.proofs.Common.{arith}
use Rattle.std.proofs.lemmas.Grind.{common_steps}
use Rattle.aud_findings.proofs.KeptLemmas.{extended-last}
use Rattle.aud_findings.proofs.timeline.runs.extend.Goals as goal

pub returns-in_ok-push-in-Some-joined_happens : goal.returns-in_ok-push-in-Some-joined_happens
returns-in_ok-push-in-Some-joined_happens c = grind (arith, common_steps, extended-last c.pop.new.self.items c.in-Some.last c.args.event)

pub returns-in_ok-push-in-None-2 : goal.returns-in_ok-push-in-None-2
returns-in_ok-push-in-None-2 c = grind (arith, common_steps, extended-last c.pop.new.self.items c.in-Some.last c.args.event)
