use Rattle.std.proofs.Common.{sym, subst}
use Rattle.aud_maker.specs.Made.{IsMade}
use Rattle.aud_session_facts.proofs.account.account_of.Goals as goal

pub made_account-requires : goal.made_account-requires
made_account-requires c =
    let made = c.in-Ok.ensures.made in
    subst (λ pid. IsMade c.args.recording.now pid c.in-Ok.cert) (sym made.is.pid_is) made
