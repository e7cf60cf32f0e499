use Rattle.std.proofs.Common.{false}
use Rattle.aud_session_facts.specs.declared.asked.Recovery.{Recovery}
use Rattle.aud_explain_app.proofs.Steps.{added_item}
use Rattle.aud_explain_app.proofs.strangers.add_strangers.Goals as goal

-- what is read where there is no recovery
abbrev none : Recovery
none = record { client = 0; stay = 0; granted = false }

pub loop-recovery-preserved : goal.loop-recovery-preserved
loop-recovery-preserved c = (
  c.in_ok-add_stranger.ensures.index,
  added_item c.args.recording.now c.args.whole c.args.recoveries.now c.loop-recovery.recovery-index none
      c.args.sessions.now.items c.loop-recovery.sessions.items c.add_stranger.new.sessions.items
      c.loop-recovery-test.true c.loop-recovery.invariant.1 c.in_ok-add_stranger.ensures.added,
)
