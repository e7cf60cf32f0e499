use Rattle.std.proofs.Common.{◌≡◌, drop}
use Rattle.aud_input.specs.Reader.{line_numbered}
use Rattle.aud_input.proofs.parts.PartsReader.waiting_line.Given as goal

-- those so far have other numbers
abbrev pub invariant-loop-line : goal.invariant-loop-line
invariant-loop-line l = line_numbered l.number (drop l.line-index l.line-items) ≡ line_numbered l.number l.self.waiting
