use Rattle.std.proofs.Common.{◌≡◌, map, take}
use Rattle.aud_node.specs.Cluster.{Cluster}
use Rattle.aud_explain_app.specs.Asked.{AreAsked}
use Rattle.aud_explain_app.specs.Chosen.{sessions_told}
use Rattle.aud_explain_app.proofs.chosen.told.Given as goal

abbrev pub invariant-loop-session : goal.invariant-loop-session
invariant-loop-session l = (c : Cluster) → AreAsked c l.asked → map (λ s. s.now) l.found.items ≡ sessions_told c l.only (take l.session-index l.sessions)
