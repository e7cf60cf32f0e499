use Rattle.std.proofs.Common.{◌≡◌, take, option_map}
use Rattle.aud_session_facts.specs.Held.{walked_records}
use Rattle.aud_session_facts.proofs.held.walk_turn.Given as goal

abbrev pub invariant-loop-number : goal.invariant-loop-number
invariant-loop-number l =
    l.builder ≡ option_map (walked_records l.logs l.turn.node l.pid (take l.number-index l.number-items)) l.initial.builder
