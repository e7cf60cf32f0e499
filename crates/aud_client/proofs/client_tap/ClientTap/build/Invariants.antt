use Rattle.aud_client.specs.Seen.{connections_seen}
use Rattle.aud_client.proofs.ClientLemmas.{HasTaken}
use Rattle.aud_client.proofs.client_tap.ClientTap.build.Given as goal

abbrev pub invariant-loop-number : goal.invariant-loop-number
invariant-loop-number l = HasTaken l.recs l.number (connections_seen l.read.list.items) l.read.bad
