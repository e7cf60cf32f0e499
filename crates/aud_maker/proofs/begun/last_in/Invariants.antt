use Rattle.std.proofs.Common.{take}
use Rattle.std.specs.List.{All}
use Rattle.aud_maker.proofs.BegunLemmas.{IsUpTo}
use Rattle.aud_maker.proofs.begun.last_in.Given as goal

abbrev pub invariant-loop-number : goal.invariant-loop-number
invariant-loop-number l = All (IsUpTo l.recs l.pid l.last) (take l.number-index l.number-items)
