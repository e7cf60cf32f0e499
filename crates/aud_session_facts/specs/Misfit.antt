-- What does not fit in a session's records: the sentences of a chain of turns that can fail, and what shows it.
use Rattle.std.specs.Prelude.{◌≡◌, ◌<◌, ◌≤◌, ◌-◌, ℕ, suc, true, false, List, Some, slice_get}
use Rattle.aud_tap.specs.declared.records.NodeRec.{NodeRec}
use Rattle.aud_tap.specs.declared.records.NodeRec.TheVariants.{Gone}
use Rattle.aud_node.specs.Stream.{Text}
use Rattle.aud_node.specs.Cluster.{Cluster, node_log}
use Rattle.aud_node.specs.TurnRecords.{begins_turn, begins_any_turn, ends_any_turn}
use Rattle.aud_rooms.specs.Turns.{Who, Turn, HasNoTurn, IsChain}
use Rattle.aud_session_facts.specs.declared.place.RecordPlace.{RecordPlace}
use Rattle.aud_session_facts.specs.declared.misfit.Misfit.{Misfit}
use Rattle.aud_session_facts.specs.declared.misfit.Misfit.TheVariants.{NeverOpened, BegunTwice, MissingTurn, BeforeTurns, AfterTurn, InsideTurn, MissingBreak, StrayBreak, OtherBreak, BackAfterGone}
use Rattle.aud_session_facts.specs.Places.{record_at, IsOwn, Begins, Breaks, HasNoBreak, IsRange}

-- two records begin turn k: two opens, or two recoveries of one number
pub record IsBegunTwice (c : Cluster) (pid : Text) (k : ℕ) (first again : RecordPlace) : Type 0 where
  pub first_begins : Begins c pid k first
  pub again_begins : Begins c pid k again
  pub two : first ≡ again → ⊥

-- no record begins turn k, and this one begins a later turn
pub record IsMissingTurn (c : Cluster) (pid : Text) (k : ℕ) (back : RecordPlace) : Type 0 where
  pub missing : HasNoTurn c pid k
  pub later : ℕ
  pub is_later : k < later
  pub begins : Begins c pid later back

-- a record of the session, where in its node's log neither it nor one before it begins a turn
pub record IsBeforeTurns (c : Cluster) (pid : Text) (place : RecordPlace) : Type 0 where
  pub own : IsOwn c pid place
  pub none_begun : (i k : ℕ) (rec : NodeRec) → i ≤ place.number → slice_get (node_log c place.node) i ≡ Some rec → begins_turn pid k rec ≡ true → ⊥

-- a `break` or the `gone` ends a turn; the other is a later record of the session in the same log, and from the first
-- up to it none begins a turn
pub record IsAfterTurn (c : Cluster) (pid : Text) (end place : RecordPlace) : Type 0 where
  pub turn : ℕ
  pub from : ℕ
  pub ranged : IsRange c pid turn (record { node = end.node; number = from }) (suc end.number)
  pub last : NodeRec
  pub last_there : record_at c end ≡ Some last
  pub ends : ends_any_turn pid last ≡ true
  pub same_node : end.node ≡ place.node
  pub is_later : end.number < place.number
  pub own : IsOwn c pid place
  pub none_begun : (i k : ℕ) (rec : NodeRec) → end.number < i → i ≤ place.number → slice_get (node_log c place.node) i ≡ Some rec → begins_turn pid k rec ≡ true → ⊥

-- a turn goes on up to a record of the session that is an `open` or a `back` again: no `break` and no `gone` is between
pub record IsInsideTurn (c : Cluster) (pid : Text) (begin place : RecordPlace) : Type 0 where
  pub turn : ℕ
  pub same_node : begin.node ≡ place.node
  pub ranged : IsRange c pid turn begin place.number
  pub last : NodeRec
  pub last_there : slice_get (node_log c begin.node) (place.number - 1) ≡ Some last
  pub ends_not : ends_any_turn pid last ≡ false
  pub rec : NodeRec
  pub there : record_at c place ≡ Some rec
  pub begins : begins_any_turn pid rec ≡ true

-- turn k ends by no `break` and no `gone`, and turn k + 1 was begun
pub record IsUnbroken (c : Cluster) (pid : Text) (k : ℕ) (begin back : RecordPlace) : Type 0 where
  pub to : ℕ
  pub ranged : IsRange c pid k begin to
  pub last : NodeRec
  pub last_there : slice_get (node_log c begin.node) (to - 1) ≡ Some last
  pub ends_not : ends_any_turn pid last ≡ false
  pub next : Begins c pid (suc k) back

-- so it is, and no log has its `break`
pub record IsMissingBreak (c : Cluster) (pid : Text) (k : ℕ) (begin back : RecordPlace) : Type 0 where
  pub unbroken : IsUnbroken c pid k begin back
  pub no_break : HasNoBreak c pid k

-- so it is, and its `break` stands elsewhere
pub record IsStrayBreak (c : Cluster) (pid : Text) (k : ℕ) (begin broke back : RecordPlace) : Type 0 where
  pub unbroken : IsUnbroken c pid k begin back
  pub breaks : Breaks c pid k broke

-- turn k ends by a `break` of another number
pub record IsOtherBreak (c : Cluster) (pid : Text) (k : ℕ) (begin broke : RecordPlace) : Type 0 where
  pub same_node : begin.node ≡ broke.node
  pub ranged : IsRange c pid k begin (suc broke.number)
  pub other : ℕ
  pub breaks : Breaks c pid other broke
  pub is_other : other ≡ k → ⊥

-- a turn ends with the session, and the turn after it was begun
pub record IsBackAfterGone (c : Cluster) (pid : Text) (gone back : RecordPlace) : Type 0 where
  pub turn : ℕ
  pub from : ℕ
  pub ranged : IsRange c pid turn (record { node = gone.node; number = from }) (suc gone.number)
  pub is_gone : record_at c gone ≡ Some (Gone pid)
  pub next : Begins c pid (suc turn) back

-- the misfit is as it says
abbrev pub IsMisfit : Cluster → Text → Misfit → Type 0
IsMisfit c pid NeverOpened = HasNoTurn c pid 0
IsMisfit c pid (BegunTwice k first again) = IsBegunTwice c pid k first again
IsMisfit c pid (MissingTurn k back) = IsMissingTurn c pid k back
IsMisfit c pid (BeforeTurns place) = IsBeforeTurns c pid place
IsMisfit c pid (AfterTurn end place) = IsAfterTurn c pid end place
IsMisfit c pid (InsideTurn begin place) = IsInsideTurn c pid begin place
IsMisfit c pid (MissingBreak k begin back) = IsMissingBreak c pid k begin back
IsMisfit c pid (StrayBreak k begin broke back) = IsStrayBreak c pid k begin broke back
IsMisfit c pid (OtherBreak k begin broke) = IsOtherBreak c pid k begin broke
IsMisfit c pid (BackAfterGone gone back) = IsBackAfterGone c pid gone back

-- the session's records are a chain of turns
pub record HasChain (c : Cluster) (pid : Text) : Type 0 where
  pub who : Who
  pub turns : List Turn
  pub names : who.pid ≡ pid
  pub chain : IsChain c who turns
