use Rattle.std.proofs.Common.{◌≡◌, take}
use Rattle.aud_cli.proofs.merge_arguments.shared.Given as goal

-- the texts so far
abbrev pub invariant-loop-text : goal.invariant-loop-text
invariant-loop-text l = l.shared.items ≡ take l.text-index l.texts
