use Rattle.std.proofs.Common.{◌≡◌, drop}
use Rattle.aud_input.specs.InputFiles.{place_in}
use Rattle.aud_input.proofs.input_file.place_in.Given as goal

-- the line stands in one of the files to come, or in none
abbrev pub invariant-files : goal.invariant-files
invariant-files l = place_in (drop l.file-index l.files) l.line ≡ place_in l.files l.number
