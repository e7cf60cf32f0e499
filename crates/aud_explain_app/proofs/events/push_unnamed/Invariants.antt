use Rattle.std.proofs.Common.{◌≡◌, ◌++◌, take}
use Rattle.aud_explain_app.specs.Events.{stays_unnamed}
use Rattle.aud_explain_app.proofs.events.push_unnamed.Given as goal

abbrev pub invariant-loop-recovery : goal.invariant-loop-recovery
invariant-loop-recovery l = l.numbers.items ≡ l.fn.numbers.items ++ stays_unnamed l.recording l.place l.pid (take l.recovery-index l.asked)
