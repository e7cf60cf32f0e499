use Rattle.aud_check.proofs.Steps.{all_of_session, some_where_not}
use Rattle.aud_check.proofs.stays.are_of_session.Goals as goal
use Rattle.std.proofs.Common.{sym, ◌∙◌}

pub returns : goal.returns
returns c =
    all_of_session (λ stay. stay.now) c.args.session.now c.args.stays.now c.all_are_of_session.result (some_where_not c.args.stays.now (sym c.is_empty.ensures ∙ c.if-is_empty.false)) c.all_are_of_session.ensures
