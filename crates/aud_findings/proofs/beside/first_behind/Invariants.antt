use Rattle.std.proofs.Common.{◌≡◌, ◌-◌, length, find}
use Rattle.aud_node.specs.Lists.{numbers_from}
use Rattle.aud_findings.specs.BesideRows.{first_behind, is_behind_at}
use Rattle.aud_findings.proofs.beside.first_behind.Given as goal

-- none of the turns so far began behind the one before it
abbrev pub invariant-loop-number : goal.invariant-loop-number
invariant-loop-number l = find (is_behind_at l.position l.turns) (numbers_from l.number (length l.turns - l.number)) ≡ first_behind l.position l.turns
