use Rattle.std.proofs.Common.{arith, string_bytes}
use Rattle.std.proofs.lemmas.Grind.{common_steps}
use Rattle.aud_explanation.proofs.Pieces.{row-laid}
use Rattle.aud_explanation.proofs.text.event.push_events.Goals as goal

pub returns : goal.returns
returns c =
    let laid = row-laid (string_bytes c.push_str.new.self) _ _ (string_bytes c.push_all-2.new.out) _ _ c.left_out.result c.args.events.now c.first_shown.result.now c.last_shown.result.now c.first_shown.ensures c.left_out.ensures c.last_shown.ensures c.in_ok-after_first.ensures.text c.in_ok-after_first.ensures.end c.in_ok-column.ensures.text c.in_ok-column.ensures.end c.in_ok-push_all.ensures.text in
    grind (arith, common_steps)
