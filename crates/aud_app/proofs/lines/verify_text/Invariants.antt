use Rattle.std.proofs.Common.{◌≡◌, take, flat_map, string_bytes}
use Rattle.aud_app.specs.Lines.{answer_line}
use Rattle.aud_app.proofs.lines.verify_text.Given as goal

-- the lines on the certificates that were gone over
abbrev pub invariant-loop-answered : goal.invariant-loop-answered
invariant-loop-answered l = string_bytes l.out ≡ flat_map answer_line (take l.answered-index l.all)
