use Rattle.aud_client.proofs.ClientLemmas.{HasTold}
use Rattle.aud_client.proofs.told.told_by.Given as goal

abbrev pub invariant-loop-number : goal.invariant-loop-number
invariant-loop-number l = HasTold l.stream l.recs l.number l.told.stays.stays.items l.told.stays.places.items l.told.bad
