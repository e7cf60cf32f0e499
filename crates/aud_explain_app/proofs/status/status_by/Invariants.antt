use Rattle.std.proofs.Common.{◌≡◌, drop}
use Rattle.aud_explain_app.specs.Status.{some_fails}
use Rattle.aud_explain_app.proofs.status.status_by.Given as goal

-- none of the sessions so far makes status 1
abbrev pub invariant-loop-session : goal.invariant-loop-session
invariant-loop-session l = some_fails l.fail_on (drop l.session-index l.verdicts) ≡ some_fails l.fail_on l.verdicts
