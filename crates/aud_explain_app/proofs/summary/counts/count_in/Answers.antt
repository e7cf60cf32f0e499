use Rattle.std.proofs.Common.{rules, tests, ◌∙◌}
use Rattle.std.proofs.lemmas.Iterator.Consumers.{YieldsList-from_filter, count_from_yields_List}
use Rattle.std.proofs.lemmas.Iterator.{YieldsList-from_slice}
use Rattle.std.proofs.lemmas.List.Sums.{length-filter}
use Rattle.aud_explain_app.specs.Summary.Counts.{is_no_in}
use Rattle.aud_explain_app.proofs.summary.counts.count_in.Goals as goal

pub returns : goal.returns
returns c =
    count_from_yields_List c.filter.result _ c.count.ensures.ran (YieldsList-from_filter _ (is_no_in c.args.class) (YieldsList-from_slice c.args.verdicts.now cc) c.filter.ensures.closure (λ x r q k. search (rules, tests)))
    ∙ length-filter (is_no_in c.args.class) c.args.verdicts.now
