use Rattle.aud_merge.proofs.Exchange.{blocked-no_run, greedily_blocked-no_run}
use Rattle.aud_merge.proofs.laws.no_run_where_blocked.Goals as goal

pub returns : goal.returns
returns c = record { any = λ k steps run b is. blocked-no_run k steps b run is; greedy = λ k fronts run b is. greedily_blocked-no_run k fronts b run is }
