use Rattle.std.proofs.Common.{◌≡◌, map, take}
use Rattle.aud_client.specs.Received.{stays_numbered}
use Rattle.aud_client.proofs.indexed_transcript.stays_at.Given as goal

abbrev pub invariant-loop-number : goal.invariant-loop-number
invariant-loop-number l = map (λ stay. stay.now) l.at.items ≡ stays_numbered l.stays (take l.number-index l.numbers)
