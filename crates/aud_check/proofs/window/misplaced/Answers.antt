use Rattle.std.proofs.Common.{sym, ◌∙◌}
use Rattle.aud_check.proofs.Misfits.{is_behind, is_not_behind, lies}
use Rattle.aud_check.proofs.window.misplaced.Goals as goal

pub returns-then-is_last_past : goal.returns-then-is_last_past
returns-then-is_last_past c = λ up. is_behind c.args.positions.now c.args.count c.args.position c.requires up (sym c.is_last_past.ensures ∙ c.if-is_last_past.true)

pub returns-then-is_next_reached : goal.returns-then-is_next_reached
returns-then-is_next_reached c = λ up. is_not_behind c.args.positions.now c.args.count c.args.position c.requires up (sym c.is_next_reached.ensures ∙ c.if-is_next_reached.true)

pub returns : goal.returns
returns c =
    λ up.
    lies c.args.positions.now c.args.count c.args.position c.requires up (sym c.is_last_past.ensures ∙ c.if-is_last_past.false) (sym c.is_next_reached.ensures ∙ c.if-is_next_reached.false)
