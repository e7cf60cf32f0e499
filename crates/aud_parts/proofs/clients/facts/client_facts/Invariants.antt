use Rattle.std.proofs.Common.{◌≡◌, flat_map, take}
use Rattle.std.specs.List.{filter_map}
use Rattle.aud_maker.specs.Sessions.{stay_pid}
use Rattle.aud_parts.specs.ClientFacts.{frame_positions}
use Rattle.aud_parts.proofs.clients.facts.client_facts.Given as goal

-- what the stays so far tell
abbrev pub invariant-loop-stay : goal.invariant-loop-stay
invariant-loop-stay l = record {
  named : l.named.items ≡ filter_map stay_pid (take l.stay-index l.stays);
  came : l.came.items ≡ flat_map frame_positions (take l.stay-index l.stays);
}
