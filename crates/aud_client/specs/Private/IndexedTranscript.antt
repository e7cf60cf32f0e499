-- What is kept beside what a client's tap tells.
use Rattle.std.specs.Prelude.{◌≡◌}
use Rattle.aud_base.specs.Places.{places_of}
use Rattle.aud_node.specs.Stream.{Text}
use Rattle.aud_client.specs.Received.{numbers_naming}
use Rattle.aud_client.specs.declared.indexed_transcript.IndexedTranscript.TheInside.{Inside}

-- of each pid, the numbers of the stays whose reply names it
abbrev pub HoldsStaysByPid : Inside → Type 0
HoldsStaysByPid t = (pid : Text) → places_of t.by_session pid ≡ numbers_naming pid t.transcript.stays
