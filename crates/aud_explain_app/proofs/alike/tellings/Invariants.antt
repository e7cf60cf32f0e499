use Rattle.std.proofs.Common.{◌≡◌, map, take}
use Rattle.aud_explain_app.specs.Alike.{alone, telling_of}
use Rattle.aud_explain_app.proofs.alike.tellings.Given as goal

abbrev pub invariant-loop-session : goal.invariant-loop-session
invariant-loop-session l = map telling_of l.told.items ≡ map alone (map (λ s. s.now) (take l.session-index l.sessions))
