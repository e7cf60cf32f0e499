use Rattle.std.proofs.Common.{unwrap_or, ap, ◌∙◌}
use Rattle.aud_upgrade.proofs.LoopLemmas.{cursor-there}
use Rattle.aud_upgrade.proofs.log.cursor_before.Goals as goal

pub returns : goal.returns
returns c =
    c.unwrap_or.ensures ∙ ap (λ o. unwrap_or o 0) c.cursor_after.ensures ∙ cursor-there c.args.log.now.stream c.args.log.now.recs c.args.number c.if-number-eq0.false c.requires
