use Rattle.std.proofs.Common.{rules, tests, lit<}
use Rattle.std.specs.Str.{bytes_eq}
use Rattle.std.proofs.lemmas.Iterator.Search.{any_from_yields_List}
use Rattle.std.proofs.lemmas.Iterator.Splits.{YieldsList-from_str_split}
use Rattle.aud_cli.proofs.names.has_name.Goals as goal

pub returns : goal.returns
returns c =
    let parts = YieldsList-from_str_split 44 c.args.list.now (lit< tt) c.split.ensures.text c.split.ensures.has_more c.split.ensures.pattern in
    any_from_yields_List (λ part. bytes_eq part c.args.name.now) _ _ c.any.result c.any.ensures.ran parts (λ x b q k. search (rules, tests))
