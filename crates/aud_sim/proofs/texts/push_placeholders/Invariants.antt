use Rattle.std.proofs.Common.{◌≡◌, ◌++◌, string_bytes}
use Rattle.aud_sim.specs.Texts.{placeholders}
use Rattle.aud_sim.proofs.texts.push_placeholders.Given as goal

abbrev pub invariant-loop-number : goal.invariant-loop-number
invariant-loop-number l = string_bytes l.text ≡ string_bytes l.initial.text ++ placeholders l.number
