use Rattle.std.proofs.Common.{◌≡◌, ◌++◌}
use Rattle.aud_input.specs.InputFiles.{input_files}
use Rattle.aud_input.proofs.input_file.InputFiles.of.Given as goal

-- the files to come are those of the names and numbers that are left
abbrev pub invariant-loop-name : goal.invariant-loop-name
invariant-loop-name l = l.files ++ input_files l.name-iterator.a.rest.now l.name-iterator.b.rest.now ≡ input_files l.names l.counts
