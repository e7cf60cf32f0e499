use Rattle.std.proofs.Common.{◌≡◌, ◌++◌, map, take}
use Rattle.aud_cli.specs.Given.{file}
use Rattle.aud_cli.proofs.given.push_files.Given as goal

-- the files so far stand after what was given before
abbrev pub invariant-loop-word : goal.invariant-loop-word
invariant-loop-word l = l.found.items ≡ l.initial.found.items ++ map (λ w. file w.now) (take l.word-index l.words)
