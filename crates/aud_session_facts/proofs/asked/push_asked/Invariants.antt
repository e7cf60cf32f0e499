use Rattle.std.proofs.Common.{◌≡◌, ◌++◌, flat_map}
use Rattle.std.specs.Prelude.{option_to_list}
use Rattle.aud_node.specs.Lists.{numbers_from}
use Rattle.aud_session_facts.specs.Recoveries.{recovery_at}
use Rattle.aud_session_facts.proofs.asked.push_asked.Given as goal

abbrev pub invariant-loop-number : goal.invariant-loop-number
invariant-loop-number l =
    l.found.items ≡ l.initial.found.items ++ flat_map (λ number. option_to_list (recovery_at l.place l.client.stays number)) (numbers_from 0 l.number)
