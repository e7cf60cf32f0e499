use Rattle.std.proofs.Common.{◌≡◌, drop}
use Rattle.aud_cert.specs.Steps.{each}
use Rattle.aud_cert.specs.Reading.{turn_over}
use Rattle.aud_cert.proofs.Lists.{with_front}
use Rattle.aud_cert.proofs.lend.turns.Given as goal

abbrev pub invariant-loop-parsed : goal.invariant-loop-parsed
invariant-loop-parsed l = with_front l.turns.items (each (turn_over l.logs) (drop l.parsed-index l.parsed)) ≡ each (turn_over l.logs) l.parsed
