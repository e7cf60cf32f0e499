use Rattle.aud_laws.proofs.Recovered.Run.{is_run, both_are_due}
use Rattle.aud_laws.proofs.Recovered.Accepted.{is_over, is_accepted, received}
use Rattle.aud_laws.proofs.recovery.recovery_is_accepted.Goals as goal

pub returns : goal.returns
returns c = record { is_over = is_over; is_accepted = is_accepted; is_run = is_run; both_are_due = both_are_due; both_were_received = received }
