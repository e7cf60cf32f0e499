use Rattle.std.proofs.Common.{◌≡◌, take}
use Rattle.aud_explain_app.specs.Asked.{numbered}
use Rattle.aud_explain_app.proofs.asked.Asked.of.Given as goal

abbrev pub invariant-loop-number : goal.invariant-loop-number
invariant-loop-number l = l.found.items ≡ numbered l.self.all.items (take l.number-index l.number-items)
