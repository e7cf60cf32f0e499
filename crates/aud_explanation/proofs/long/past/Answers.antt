use Rattle.std.proofs.Common.{ap, drop, ◌∙◌}
use Rattle.std.proofs.lemmas.List.{drop_min}
use Rattle.aud_explanation.proofs.long.past.Goals as goal

pub returns : goal.returns
returns g c = c.split_at.ensures.back ∙ ap (λ n. drop n c.args.list.now) c.min.ensures ∙ drop_min c.args.count c.args.list.now
