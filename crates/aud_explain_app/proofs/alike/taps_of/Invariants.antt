use Rattle.std.proofs.Common.{◌≡◌, map, take}
use Rattle.aud_session_facts.specs.declared.place.RecordPlace.{RecordPlace}
use Rattle.aud_explain_app.proofs.alike.taps_of.Given as goal

abbrev pub invariant-loop-at : goal.invariant-loop-at
invariant-loop-at l = l.nodes.items ≡ map (λ (at : RecordPlace). at.node) (take l.at-index l.at-items)
