use Rattle.aud_client.proofs.ByPlace.{received_by_stays}
use Rattle.aud_client.proofs.laws.received_by_stays.Goals as goal

pub returns : goal.returns
returns c = received_by_stays
