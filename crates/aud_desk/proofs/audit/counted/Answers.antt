use Rattle.std.proofs.Common.{rules, tests, ◌∙◌}
use Rattle.std.proofs.lemmas.Iterator.Consumers.{YieldsList-from_filter, count_from_yields_List}
use Rattle.std.proofs.lemmas.Iterator.{YieldsList-from_slice}
use Rattle.std.proofs.lemmas.List.Sums.{length-filter}
use Rattle.aud_verdict.specs.YesOf.{is_yes}
use Rattle.aud_desk.proofs.audit.counted.Goals as goal

pub returns-clause-yes : goal.returns-clause-yes
returns-clause-yes c =
    count_from_yields_List c.filter.result _ c.count-yes.ensures.ran (YieldsList-from_filter _ is_yes (YieldsList-from_slice c.args.verdicts.items cc) c.filter.ensures.closure (λ x r q k. search (rules, tests)))
    ∙ length-filter is_yes c.args.verdicts.items
