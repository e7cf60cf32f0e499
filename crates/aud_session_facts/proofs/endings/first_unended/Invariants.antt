use Rattle.std.proofs.Common.{◌≡◌, drop}
use Rattle.aud_maker.specs.Ended.{are_ended}
use Rattle.aud_session_facts.proofs.endings.first_unended.Given as goal

abbrev pub invariant-loop-number : goal.invariant-loop-number
invariant-loop-number l = are_ended l.logs l.pid l.number (drop l.number l.turns) ≡ are_ended l.logs l.pid 0 l.turns
