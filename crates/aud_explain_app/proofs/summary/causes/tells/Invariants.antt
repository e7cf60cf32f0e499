use Rattle.std.proofs.Common.{◌≡◌, drop}
use Rattle.std.specs.Borrow.{Bor}
use Rattle.std.specs.List.{list_any}
use Rattle.std.specs.Str.{bytes_eq}
use Rattle.aud_node.specs.Stream.{Text}
use Rattle.aud_explain_app.specs.Summary.Causes.{tells}
use Rattle.aud_explain_app.proofs.summary.causes.tells.Given as goal

-- none so far has the name
abbrev pub invariant-loop-name : goal.invariant-loop-name
invariant-loop-name l = list_any (λ (name : Bor Text). bytes_eq name.now l.id) (drop l.name-index l.name-items) ≡ tells l.id l.told
