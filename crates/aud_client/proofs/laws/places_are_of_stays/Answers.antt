use Rattle.aud_client.proofs.Giving.{tap_given}
use Rattle.aud_client.proofs.laws.places_are_of_stays.Goals as goal

pub returns : goal.returns
returns c = tap_given
