use Rattle.aud_merge.proofs.OneShown.{begins_run}
use Rattle.aud_merge.proofs.order_laws.allowed_steps_begin_runs.Goals as goal

pub returns : goal.returns
returns c = begins_run
