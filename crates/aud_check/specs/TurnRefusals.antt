-- What refuses a turn of a certificate.
use Rattle.std.specs.Prelude.{◌≡◌, ◌≤◌, ◌+◌, ℕ, suc, Bool, true, false, List, map, length, drop, slice_get, Option, Some, None}
use Rattle.aud_tap.specs.declared.records.StreamRec.{StreamRec}
use Rattle.aud_tap.specs.declared.records.NodeRec.{NodeRec}
use Rattle.aud_node.specs.Stream.{Text}
use Rattle.aud_node.specs.Cursors.{cursor_at}
use Rattle.aud_node.specs.Ordered.{is_ordered}
use Rattle.aud_node.specs.Cluster.{Cluster}
use Rattle.aud_node.specs.TurnRecords.{begins_turn}
use Rattle.aud_rooms.specs.Turns.{End, turn_end, MayEnd}
use Rattle.aud_cert.specs.Certificate.{TurnSeen, turn_at, log_named}
use Rattle.aud_check.specs.Faults.{fault_rank}
use Rattle.aud_check.specs.declared.refusal.Refusal.{Refusal}
use Rattle.aud_check.specs.declared.refusal.Refusal.TheVariants.{NotItsTurn, EndInside, NoEnd, Cursor, Span, Names, Received, Memory}

-- there is a record, and it begins turn k of the session
abbrev pub is_begun_by : Text → ℕ → Option NodeRec → Bool
is_begun_by pid k None = false
is_begun_by pid k (Some rec) = begins_turn pid k rec

-- how turn k ends, whose records these are; none where one after the first is no record of it, or ends it before
-- others
abbrev pub end_of : Text → ℕ → List NodeRec → Option End
end_of pid k recs = turn_end pid k (drop 1 recs)

-- the turn ends within its log, and as one may that stands before these
pub record Ends (c : Cluster) (pid : Text) (k : ℕ) (t : TurnSeen) (later : List TurnSeen) : Type 0 where
  pub within : t.to ≤ length (log_named c t.node)
  pub end : End
  pub is_end : end_of pid k t.recs ≡ Some end
  pub may_end : MayEnd c (turn_at c t) (map (turn_at c) later) end

-- the log is ordered, and the turn's cursors are those after its first and after its last record
pub record HasCursors (stream : List StreamRec) (log : List NodeRec) (t : TurnSeen) : Type 0 where
  pub ordered : is_ordered stream log ≡ true
  pub low_is : t.low ≡ cursor_at stream log (suc t.from)
  pub high_is : t.high ≡ cursor_at stream log t.to

-- what refuses turn k of the session, which stands before these
abbrev pub RefusesTurn : Cluster → Text → ℕ → TurnSeen → List TurnSeen → Refusal → Type 0
RefusesTurn c pid k t later NotItsTurn = is_begun_by pid k (slice_get t.recs 0) ≡ false
RefusesTurn c pid k t later EndInside = end_of pid k t.recs ≡ None
RefusesTurn c pid k t later NoEnd = Ends c pid k t later → ⊥
RefusesTurn c pid k t later Cursor = HasCursors c.stream (log_named c t.node) t → ⊥
RefusesTurn c pid k t later _ = ⊥

-- the turn begins, ends and has the cursors that it should
pub record IsTurnAccepted (c : Cluster) (pid : Text) (k : ℕ) (t : TurnSeen) (later : List TurnSeen) : Type 0 where
  pub begins : is_begun_by pid k (slice_get t.recs 0) ≡ true
  pub ends : Ends c pid k t later
  pub cursors : HasCursors c.stream (log_named c t.node) t

-- so do all of the turns
abbrev pub AreTurnsAccepted : Cluster → Text → List TurnSeen → Type 0
AreTurnsAccepted c pid turns = (k : ℕ) (t : TurnSeen) → slice_get turns k ≡ Some t → IsTurnAccepted c pid k t (drop (suc k) turns)

-- ---- the order

-- the order of the refusals at one place
abbrev pub refusal_rank : Refusal → ℕ
refusal_rank NotItsTurn = 0
refusal_rank EndInside = 1
refusal_rank NoEnd = 2
refusal_rank Cursor = 3
refusal_rank Span = 0
refusal_rank Names = 1
refusal_rank (Received fault) = 2 + fault_rank fault
refusal_rank Memory = 8
