use Rattle.std.proofs.Common.{take}
use Rattle.std.specs.List.{All}
use Rattle.aud_session_facts.specs.Private.Unended.{HasNoBreakOn}
use Rattle.aud_session_facts.proofs.endings.break_of.Given as goal

abbrev pub invariant-loop-node : goal.invariant-loop-node
invariant-loop-node l = All (λ node. HasNoBreakOn l.logs node l.pid l.number) (take l.node-index l.nodes)
