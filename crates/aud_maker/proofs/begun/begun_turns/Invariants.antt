use Rattle.std.proofs.Common.{◌≡◌, length}
use Rattle.aud_maker.specs.Begun.{AreBegun}
use Rattle.aud_maker.proofs.begun.begun_turns.Given as goal

abbrev pub invariant-loop-number : goal.invariant-loop-number
invariant-loop-number l =
    record {
      begun : AreBegun l.logs l.nodes l.pid 0 l.turns.items;
      count : length l.turns.items ≡ l.number;
    }
