use Rattle.std.proofs.Common.{sym, subst}
use Rattle.aud_maker.specs.Made.{IsMade}
use Rattle.aud_verdict.proofs.judging.judge.Goals as goal

pub judge_made-requires : goal.judge_made-requires
judge_made-requires c =
    let made = c.in-Ok.ensures.made in
    subst (λ pid. IsMade c.args.recording.now pid c.in-Ok.cert) (sym made.is.pid_is) made
