use Rattle.std.proofs.Common.{rules, tests, lit<}
use Rattle.std.proofs.lemmas.Iterator.Search.{all_from_yields_List}
use Rattle.std.proofs.lemmas.Iterator.Splits.{YieldsList-from_str_split}
use Rattle.aud_cli.specs.FailOn.{is_finding}
use Rattle.aud_cli.proofs.fail_on.are_findings.Goals as goal

pub returns : goal.returns
returns c =
    let parts = YieldsList-from_str_split 44 c.args.list.now (lit< tt) c.split.ensures.text c.split.ensures.has_more c.split.ensures.pattern in
    all_from_yields_List is_finding _ _ c.all.result c.all.ensures.ran parts (λ x b q k. search (rules, tests))
