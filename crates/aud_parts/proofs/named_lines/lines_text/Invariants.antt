use Rattle.std.proofs.Common.{◌≡◌, ◌++◌, take, flat_map, string_bytes}
use Rattle.aud_parts.specs.NamedLines.{ended, size_line, run_line, file_line}
use Rattle.aud_parts.proofs.named_lines.lines_text.Given as goal

-- the first line, and those of the runs so far
abbrev pub invariant-loop-run : goal.invariant-loop-run
invariant-loop-run l =
    string_bytes l.out
    ≡ ended (size_line l.part.size) ++ flat_map (λ run. ended (run_line run)) (take l.run-index l.runs)

-- the first line, those of the runs, and those of the files so far
abbrev pub invariant-loop-file : goal.invariant-loop-file
invariant-loop-file l =
    string_bytes l.out
    ≡ ended (size_line l.part.size) ++ flat_map (λ run. ended (run_line run)) l.part.runs
    ++ flat_map (λ file. ended (file_line file)) (take l.file-index l.files)
