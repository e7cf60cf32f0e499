use Rattle.std.proofs.Common.{◌≡◌, ◌++◌, codes, take, flat_map, string_bytes}
use Rattle.aud_explanation.specs.Named.{in_quotes}
use Rattle.aud_explanation.proofs.name.push_quoted.Given as goal

-- the characters so far, behind a quote
abbrev pub invariant-loop-c : goal.invariant-loop-c
invariant-loop-c l = string_bytes l.out ≡ string_bytes l.fn.out ++ (codes "\"" ++ flat_map in_quotes (take l.c-index l.characters))
