use Rattle.std.proofs.Common.{◌≡◌, [], drop, take, flat_map}
use Rattle.aud_base.specs.FirstTexts.{with_texts}
use Rattle.aud_node.specs.NamedPids.{named_pids, node_pids}
use Rattle.aud_parts.specs.Plan.{client_pids}
use Rattle.aud_parts.proofs.plan.sessions.Sessions.of.Given as goal

abbrev pub invariant-loop-number : goal.invariant-loop-number
invariant-loop-number l = l.sessions ≡ with_texts [] (take l.number (named_pids l.logs.taps))

abbrev pub invariant-loop-client : goal.invariant-loop-client
invariant-loop-client l =
    l.sessions ≡ with_texts (with_texts [] (flat_map node_pids l.logs.taps)) (flat_map client_pids (take l.client-index l.clients))

abbrev pub invariant-loop-pid : goal.invariant-loop-pid
invariant-loop-pid l = with_texts l.sessions (drop l.pid-index l.pid-items) ≡ with_texts l.initial.sessions l.pid-items
