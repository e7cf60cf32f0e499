use Rattle.aud_client.proofs.Altered.{naming_tells, tap_tells}
use Rattle.aud_client.proofs.laws.stays_tell_altered.Goals as goal

pub returns-clause-all : goal.returns-clause-all
returns-clause-all c = tap_tells

pub returns-clause-naming : goal.returns-clause-naming
returns-clause-naming c = naming_tells
