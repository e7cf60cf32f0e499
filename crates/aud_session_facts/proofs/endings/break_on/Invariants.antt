use Rattle.std.proofs.Common.{◌≡◌, drop}
use Rattle.std.specs.List.{list_any}
use Rattle.aud_session_facts.proofs.Ends.{breaks-at}
use Rattle.aud_session_facts.proofs.endings.break_on.Given as goal

abbrev pub invariant-loop-own : goal.invariant-loop-own
invariant-loop-own l = list_any (breaks-at l.logs l.node l.pid l.number) (drop l.own-index l.own-items) ≡ list_any (breaks-at l.logs l.node l.pid l.number) l.own-items
