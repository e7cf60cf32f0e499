use Rattle.aud_client.proofs.recording.Recording.read.Goals as goal

pub invariant_of-result : goal.invariant_of-result
invariant_of-result g c = record { clients_are = c.in_ok-clients.ensures; named_once = rw c.in_ok-logs.ensures c.requires }
