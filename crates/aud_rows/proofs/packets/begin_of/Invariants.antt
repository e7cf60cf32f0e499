use Rattle.std.proofs.Common.{◌≡◌, ◌≤◌, drop}
use Rattle.aud_rows.specs.Marks.{begin_from}
use Rattle.aud_rows.proofs.packets.begin_of.Given as goal

-- what is to come moves the begin as it does from the front
abbrev pub invariant-loop-number : goal.invariant-loop-number
invariant-loop-number l = record {
  begin : begin_from l.begin l.number (drop l.number l.recs) ≡ begin_from 0 0 l.recs;
  inside : l.begin ≤ l.number;
}
