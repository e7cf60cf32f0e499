use Rattle.std.proofs.Common.{◌≡◌, List, ℕ, None}
use Rattle.aud_parts.specs.ClientsRead.{AreToldOf}
use Rattle.aud_parts.specs.TapRuns.{TapRuns}
use Rattle.aud_parts.specs.Private.ClientSteps.{AreAdded, AreTold}
use Rattle.aud_parts.proofs.clients.ClientsReading.add_all.Given as goal

-- what is told so far was added
abbrev pub invariant-loop-told : goal.invariant-loop-told
invariant-loop-told l = record {
  held : l.self.held ≡ l.fn.self.held;
  stream : l.self.stream ≡ l.fn.self.stream;
  told : (files : List (List ℕ)) (read taps : List TapRuns) → AreTold files l.fn.self.stream.now taps l.fn.all.items
      → (l.fn.self.refusal ≡ None → AreToldOf files l.fn.self.stream.now read l.fn.self.clients.items)
      → AreAdded files l.fn.self.stream.now read taps l.told-iterator.rest.items l.self.refusal l.self.clients.items;
}
