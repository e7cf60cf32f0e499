use Rattle.aud_client.proofs.Forgetting.{forgotten-stays, told_placed}
use Rattle.aud_client.proofs.laws.placed_stays_are_stays.Goals as goal

pub returns-clause-stays : goal.returns-clause-stays
returns-clause-stays c = forgotten-stays

pub returns-clause-told : goal.returns-clause-told
returns-clause-told c = told_placed
