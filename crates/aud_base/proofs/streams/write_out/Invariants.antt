use Rattle.std.proofs.Common.{◌≡◌, length}
use Rattle.aud_base.proofs.Bytes.{IsWrittenUpTo}
use Rattle.aud_base.specs.Watched.{inner_of, has_failed}
use Rattle.aud_base.proofs.streams.write_out.Given as goal

-- no write failed, and what was written, and the rest, are the text
abbrev pub invariant-pieces : goal.invariant-pieces
invariant-pieces g l =
    (has_failed l.output ≡ has_failed l.fn.output)
    × IsWrittenUpTo (g.W.Write.contents (inner_of l.fn.output)) (g.W.Write.contents (inner_of l.output)) l.text l.rest

abbrev pub decreases-pieces : goal.decreases-pieces
decreases-pieces g l = length l.rest
