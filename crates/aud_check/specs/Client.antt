-- What the client's tap that a certificate names tells of a session.
use Rattle.std.specs.Prelude.{ℕ, List}
use Rattle.aud_node.specs.Stream.{Text}
use Rattle.aud_node.specs.Cluster.{Cluster}
use Rattle.aud_client.specs.Received.{transcript_of, received_list, stays_naming}
use Rattle.aud_check.specs.Shown.{client_log_named}
use Rattle.aud_check.specs.Faults.{Case}

-- what the client with this name received of the session, against what was due to it
abbrev pub case_for : Cluster → Text → Text → List ℕ → Case
case_for c client pid due =
    record {
      stream = c.stream;
      transcript = transcript_of c.stream (client_log_named c client);
      stays = stays_naming pid (transcript_of c.stream (client_log_named c client)).stays;
      frames = received_list c.stream (client_log_named c client) pid;
      due = due;
    }
