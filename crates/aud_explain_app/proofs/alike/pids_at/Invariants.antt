use Rattle.std.proofs.Common.{◌≡◌, map, take}
use Rattle.aud_explain_app.specs.Alike.{pids_at}
use Rattle.aud_explain_app.proofs.alike.pids_at.Given as goal

abbrev pub invariant-loop-number : goal.invariant-loop-number
invariant-loop-number l = map (λ pid. pid.now) l.pids.items ≡ pids_at (map (λ s. s.now) l.sessions) (take l.number-index l.numbers)
