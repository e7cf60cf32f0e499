use Rattle.std.proofs.Common.{◌∙◌, ◌==◌, arith}
use Rattle.std.proofs.lemmas.Grind.{common_steps}
use Rattle.std.proofs.lemmas.Option.{slice_get_within}
use Rattle.std.proofs.lemmas.Result.{on_ok_weaker}
use Rattle.aud_client.proofs.Kept.{changed_at}
use Rattle.aud_parts.specs.IndexSoFar.{with_run}
use Rattle.aud_parts.proofs.NotedLemmas.{changed-set}
use Rattle.aud_parts.proofs.tap_index.tap_runs.RunsByTap.push.Goals as goal

pub returns-in-Some-clause-taps : goal.returns-in-Some-clause-taps
returns-in-Some-clause-taps c = λ tap at.
    let taps = c.args.self.now.taps.items in
    let f = with_run (c.args.place == c.args.self.now.last) c.args.line in
    on_ok_weaker c.push.result (λ e. e ∙ changed-set f taps c.args.place tap at)
    (changed_at c.push.result taps c.args.place c.in-Some.tap.now c.push.new.self tap f c.in-Some.ensures.item.3.0 c.in-Some.ensures.item.1 at c.push.ensures)

pub returns-in-None-clause-taps : goal.returns-in-None-clause-taps
returns-in-None-clause-taps c = λ tap at. grind (arith, common_steps, c.in-None.ensures.item, slice_get_within c.args.self.now.taps.items c.args.place tap at)
