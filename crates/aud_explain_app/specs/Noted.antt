-- What was noted of the taps of a session.
use Rattle.std.specs.Prelude.{◌≡◌, ℕ, List, [], Option, Some, None}
use Rattle.aud_node.specs.Lists.{first_index}
use Rattle.aud_node.specs.Cluster.{Cluster}
use Rattle.aud_node.specs.OwnPlaces.{own_places}
use Rattle.aud_node.specs.Stream.{Text}
use Rattle.aud_cert.specs.declared.fault.Fault.{Fault}
use Rattle.aud_cert.specs.declared.fault.Fault.TheVariants.{Order, Orphan}
use Rattle.aud_session_facts.specs.declared.place.RecordPlace.{RecordPlace}
use Rattle.aud_client.specs.Received.{is_orphan}
use Rattle.aud_rows.specs.StayRows.{stays_at}
use Rattle.aud_verdict.specs.declared.verdict.Verdict.{Verdict}
use Rattle.aud_verdict.specs.declared.verdict.Verdict.TheVariants.{Yes, No}
use Rattle.aud_findings.specs.ShowsOrder.{AreOutOfOrder}
use Rattle.aud_causes.specs.declared.causes.Noted.{Noted}

-- where the fault is that a node is out of order: of each such node with records of the session the first record that is
abbrev pub IsUnorderedNoted : Cluster → Text → Fault → List RecordPlace → Type 0
IsUnorderedNoted c pid Order found = AreOutOfOrder c (own_places c pid) found
IsUnorderedNoted c pid _ found = found ≡ []

-- where the fault is that nobody knows the session of an event: the number of the first such stay of the client's tap
abbrev pub IsOrphanNoted : Cluster → Fault → Option ℕ → Option ℕ → Type 0
IsOrphanNoted c Orphan (Some client) stay = stay ≡ first_index is_orphan (stays_at c client)
IsOrphanNoted c _ _ stay = stay ≡ None

-- this was noted for the verdict on the session, whose client's tap is at this place, if it is known
abbrev pub IsNoted : Cluster → Text → Verdict → Option ℕ → Noted → Type 0
IsNoted c pid (Yes got tail turns) client noted = (noted.unordered.items ≡ []) × (noted.orphan ≡ None)
IsNoted c pid (No fault) client noted = IsUnorderedNoted c pid fault noted.unordered.items × IsOrphanNoted c fault client noted.orphan
