use Rattle.std.proofs.Common.{◌≡◌, drop}
use Rattle.std.specs.List.{list_all}
use Rattle.aud_explanation.specs.Named.{is_of_plain}
use Rattle.aud_explanation.proofs.name.is_plain_name.Given as goal

-- all so far are, and what is left decides
abbrev pub invariant-loop-c : goal.invariant-loop-c
invariant-loop-c l = list_all is_of_plain (drop l.c-index l.characters) ≡ list_all is_of_plain l.characters
