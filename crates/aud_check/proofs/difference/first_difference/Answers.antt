use Rattle.std.proofs.Common.{ap, ◌∙◌}
use Rattle.aud_check.specs.Difference.{difference_at}
use Rattle.aud_check.proofs.Differences.{found_shown}
use Rattle.aud_check.proofs.difference.first_difference.Goals as goal

pub returns-clause-shown : goal.returns-clause-shown
returns-clause-shown c =
    let received = c.args.received.now in
    let due = c.args.due.now in
    found_shown received due c.difference_at.result (c.difference_at.ensures ∙ ap (difference_at received due) c.agreed_len.ensures)
