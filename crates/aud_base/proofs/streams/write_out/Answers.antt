use Rattle.std.proofs.Common.{rules}
use Rattle.aud_base.proofs.Bytes.{written_more}
use Rattle.aud_base.proofs.streams.write_out.Goals as goal

pub pieces-preserved : goal.pieces-preserved
pieces-preserved g c =
    (search rules, written_more _ _ _ _ _ c.in-Ok.n c.pieces.invariant.1 c.in-Ok.ensures.bytes)
