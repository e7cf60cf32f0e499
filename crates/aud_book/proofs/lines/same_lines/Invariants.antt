use Rattle.std.proofs.Common.{◌≡◌, take}
use Rattle.aud_book.specs.History.{texts}
use Rattle.aud_book.proofs.lines.same_lines.Given as goal

abbrev pub invariant-loop-i : goal.invariant-loop-i
invariant-loop-i l = texts (take l.i l.left) ≡ texts (take l.i l.right)
