use Rattle.std.proofs.Common.{◌≡◌, false, take}
use Rattle.std.specs.List.{list_any}
use Rattle.aud_node.specs.Recoverable.{is_recoverable}
use Rattle.aud_app.proofs.audit.has_recoverable.Given as goal

-- none of the entries so far is recoverable
abbrev pub invariant-loop-before : goal.invariant-loop-before
invariant-loop-before l = list_any is_recoverable (take l.before l.stream) ≡ false
