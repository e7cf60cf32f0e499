use Rattle.std.proofs.Common.{◌++◌, ◌∙◌, ℕ, ap, append_assoc, flat_map, sym}
use Rattle.std.specs.Prelude.{option_to_list}
use Rattle.aud_node.specs.Lists.{numbers_from}
use Rattle.aud_session_facts.specs.Recoveries.{recovery_at}
use Rattle.aud_session_facts.proofs.Steps.{given-more}
use Rattle.aud_session_facts.proofs.asked.push_asked.Goals as goal

pub loop-number-preserved : goal.loop-number-preserved
loop-number-preserved c =
    let number = c.loop-number.number in
    let first = c.args.found.now.items in
    let at = λ (k : ℕ). option_to_list (recovery_at c.args.place c.args.client.now.stays k) in
    c.in_ok-push_recovery.ensures ∙ ap (λ found. found ++ at number) c.loop-number.invariant
    ∙ append_assoc first (flat_map at (numbers_from 0 number)) (at number) ∙ ap (λ ys. first ++ ys) (sym (given-more at number))
