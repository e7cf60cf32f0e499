use Rattle.aud_session_facts.proofs.Noted.{one_more}
use Rattle.aud_session_facts.proofs.came.note.Goals as goal

pub loop-position-preserved : goal.loop-position-preserved
loop-position-preserved c = λ p. one_more c.args.came.now c.loop-position.position-index p _ _ _ c.loop-position-test.true (c.in_ok-insert.ensures.updates.0 p) (c.loop-position.invariant p)
