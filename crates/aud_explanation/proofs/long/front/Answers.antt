use Rattle.std.proofs.Common.{ap, take, ◌∙◌}
use Rattle.std.proofs.lemmas.List.{take_min}
use Rattle.aud_explanation.proofs.long.front.Goals as goal

pub returns : goal.returns
returns g c = c.split_at.ensures.front ∙ ap (λ n. take n c.args.list.now) c.min.ensures ∙ take_min c.args.most c.args.list.now
