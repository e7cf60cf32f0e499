use Rattle.aud_merge.proofs.OneShown.{one_run, one_block}
use Rattle.aud_merge.proofs.order_laws.shown_is_one.Goals as goal

pub returns : goal.returns
returns c = record { run = one_run; blocked = one_block; either = λ k steps fronts is are. are.no_run steps is.is_run }
