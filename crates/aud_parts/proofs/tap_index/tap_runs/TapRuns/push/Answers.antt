use Rattle.std.proofs.Common.{arith}
use Rattle.std.proofs.lemmas.Grind.{common_steps}
use Rattle.aud_parts.proofs.NotedLemmas.{longer-last}
use Rattle.aud_parts.proofs.tap_index.tap_runs.TapRuns.push.Goals as goal

pub returns-then-last-line : goal.returns-then-last-line
returns-then-last-line c = rw (← c.self.view_is) (grind (arith, common_steps, longer-last c.args.goes_on c.args.line c.pop.new.self.items c.in-Some.last))

pub returns : goal.returns
returns c = rw (← c.self.view_is) (grind (arith, common_steps, longer-last c.args.goes_on c.args.line c.pop.new.self.items c.in-Some.last))
