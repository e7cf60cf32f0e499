use Rattle.std.proofs.Common.{◌≡◌, drop}
use Rattle.aud_input.specs.FileLine.{after_files, file_line}
use Rattle.aud_input.proofs.place.file_line.Given as goal

-- the files that were looked at come before
abbrev pub invariant-files : goal.invariant-files
invariant-files l = after_files l.file (file_line (drop l.file l.counts) l.line) ≡ file_line l.counts l.number
