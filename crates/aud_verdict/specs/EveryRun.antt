-- What a verdict on a session says of every run of the logs.
use Rattle.std.specs.Prelude.{◌≡◌, ◌+◌, ◌<◌, ℕ, List, length}
use Rattle.aud_node.specs.Stream.{Text}
use Rattle.aud_node.specs.Cluster.{Cluster}
use Rattle.aud_merge.specs.declared.step.Step.{Step}
use Rattle.aud_merge.specs.Runs.{IsRun}
use Rattle.aud_merge.specs.Due.{due}
use Rattle.aud_merge.specs.ByTurns.{IsPrefixOf}
use Rattle.aud_check.specs.Frames.{AreEntries}
use Rattle.aud_cert.specs.declared.fault.Fault.TheVariants.{Tail}
use Rattle.aud_verdict.specs.declared.verdict.Verdict.{Verdict}
use Rattle.aud_verdict.specs.declared.verdict.Verdict.TheVariants.{Yes, No}
use Rattle.aud_verdict.specs.Session.{SessionLogs, IsSession, positions, received_by}
use Rattle.aud_verdict.specs.Faults.{IsMisdelivery}

-- what a yes says: the client received what was due to its session, whichever run happened
pub record IsDelivered (c : Cluster) (pid : Text) (got tail turns : ℕ) : Type 0 where
  -- the session as the logs have it: its turns, and the one client tap that names it
  pub session : SessionLogs
  pub is_session : IsSession c pid session
  -- the logs have no other session of this pid
  pub is_only : (other : SessionLogs) → IsSession c pid other → other ≡ session
  -- so many events were received
  pub got_is : got ≡ length (received_by c session)
  -- so many turns it has
  pub turns_are : turns ≡ length session.turns
  -- each event received is the stream's entry at its position, byte for byte
  pub are_entries : AreEntries c.stream (received_by c session)
  -- in every run, the positions received are a front of those due: in their order, none left out, none twice, none more
  pub is_front : (run : List Step) → IsRun c run → IsPrefixOf (positions c session) (due c run pid)
  -- in every run, what was received and the tail are all that is due
  pub are_all : (run : List Step) → IsRun c run → got + tail ≡ length (due c run pid)

-- what a misdelivery says: the client did not receive what was due to its session, whichever run happened
pub record IsMisdelivered (c : Cluster) (pid : Text) : Type 0 where
  -- the session as the logs have it: its turns, and the one client tap that names it
  pub session : SessionLogs
  pub is_session : IsSession c pid session
  -- the logs have no other session of this pid
  pub is_only : (other : SessionLogs) → IsSession c pid other → other ≡ session
  -- in no run are the positions received a front of those due
  pub is_no_front : (run : List Step) → IsRun c run → IsPrefixOf (positions c session) (due c run pid) → ⊥

-- what a tail says: the client received what was due to its session up to its last event, and so many more were due,
-- whichever run happened
pub record IsUnfinished (c : Cluster) (pid : Text) (count : ℕ) : Type 0 where
  pub some : 0 < count
  pub got : ℕ
  pub turns : ℕ
  pub is_delivered : IsDelivered c pid got count turns

-- what the verdict says of every run: after a yes that all was delivered; after `EXTRA`, `DOUBLED`, `SWAPPED` and
-- `LOST` that it was not; after `TAIL` that so many events are missing at the end. The other faults say nothing of runs
abbrev pub HoldsInEveryRun : Cluster → Text → Verdict → Type 0
HoldsInEveryRun c pid (Yes got tail turns) = IsDelivered c pid got tail turns
HoldsInEveryRun c pid (No fault) =
    (IsMisdelivery fault → IsMisdelivered c pid) × ((count : ℕ) → fault ≡ Tail count → IsUnfinished c pid count)
