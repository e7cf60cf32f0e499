-- What a verdict says of every run.
use Rattle.std.proofs.Common.{arith, ◌≡◌, ℕ, Bool, true, false, List, [], ◌∷◌, ◌++◌, map, length, Some, refl, sym, ap, subst, ◌∙◌}
use Rattle.std.proofs.lemmas.List.{length-map}
use Rattle.aud_node.specs.Stream.{Text}
use Rattle.aud_node.specs.Cluster.{Cluster}
use Rattle.aud_rooms.specs.Turns.{Who, Turn, IsChain, slice_of}
use Rattle.aud_rooms.specs.TurnsDue.{turns_due}
use Rattle.aud_merge.specs.declared.step.Step.{Step}
use Rattle.aud_merge.specs.Runs.{IsRun}
use Rattle.aud_merge.specs.Due.{due}
use Rattle.aud_merge.specs.ByTurns.{IsPrefixOf}
use Rattle.aud_client.specs.StaySeen.{FrameSeen}
use Rattle.aud_cert.specs.declared.fault.Fault.{Fault}
use Rattle.aud_cert.specs.declared.fault.Fault.TheVariants.{Tail}
use Rattle.aud_check.specs.Faults.{difference_fault}
use Rattle.aud_check.proofs.Agreed.{difference-none}
use Rattle.aud_check.proofs.Ranks.{not_different}
use Rattle.aud_verdict.specs.declared.verdict.Verdict.{Verdict}
use Rattle.aud_verdict.specs.declared.verdict.Verdict.TheVariants.{Yes, No}
use Rattle.aud_verdict.specs.Session.{SessionLogs, IsSession, session_case, received_by, due_to, positions}
use Rattle.aud_verdict.specs.Faults.{Holds, HoldsFirst, IsMisdelivery}
use Rattle.aud_verdict.specs.Verdict.{IsYes, IsVerdict}
use Rattle.aud_verdict.specs.EveryRun.{IsDelivered, IsMisdelivered, IsUnfinished, HoldsInEveryRun}
use Rattle.aud_verdict.proofs.Sessions.{one_session}
use Rattle.aud_verdict.proofs.Left.{received_in, without_tail, none_left}

-- a front that is as long as the list is all of it
whole_front : (xs ys : List ℕ) → IsPrefixOf xs ys → length xs ≡ length ys → xs ≡ ys
whole_front [] [] front same = refl
whole_front [] (y ∷ ys) front same = absurd (omega (arith, same))
whole_front (x ∷ xs) [] front same = absurd (omega (arith, same))
whole_front (x ∷ xs) (y ∷ ys) (rest, e) same =
    let here : x ≡ y = cc in
    let later : xs ++ rest ≡ ys = cc in
    let tail : xs ≡ ys = whole_front xs ys (rest, later) (omega (arith, same)) in
    cc

-- what the merging law says: in every run what is due to a session is its due list by turns
abbrev pub DueByTurns : Type 0
DueByTurns = (c : Cluster) (run : List Step) (who : Who) (turns : List Turn) → IsRun c run → IsChain c who turns → due c run who.pid ≡ turns_due c.stream who (map (slice_of c) turns)

module _ (law : DueByTurns) (c : Cluster) (pid : Text) where
  -- what is due to a session in a run
  due_in : (s : SessionLogs) → IsSession c pid s → (run : List Step) → IsRun c run → due c run pid ≡ due_to c s
  due_in s is run is_run = ap (due c run) (sym is.names) ∙ law c run s.who s.turns is_run is.chain

  -- what a yes says of every run
  delivered : (whole : Bool) (got tail turns : ℕ) → IsYes c whole pid got tail turns → IsDelivered c pid got tail turns
  delivered whole got tail turns is =
      let s = is.session in
      let received = received_in c pid whole s is.is_session (λ fault before. is.none_holds fault) in
      record {
        session = s;
        is_session = is.is_session;
        is_only = λ other too. one_session c pid other s too is.is_session;
        got_is = is.got_is;
        turns_are = is.turns_are;
        are_entries = received.are_entries;
        is_front = λ run is_run. subst (IsPrefixOf (positions c s)) (sym (due_in s is.is_session run is_run)) received.is_prefix;
        are_all = λ run is_run. is.tail_is ∙ sym (ap (λ (ps : List ℕ). length ps) (due_in s is.is_session run is_run));
      }

  -- what is so in every run where what a session received and what is due to it by its turns part
  parted : (fault : Fault) → (s : SessionLogs) × IsSession c pid s × (difference_fault (session_case c s) ≡ Some fault) → IsMisdelivered c pid
  parted fault (s, is, h) =
      record {
        session = s;
        is_session = is;
        is_only = λ other too. one_session c pid other s too is;
        is_no_front = λ run is_run prefix.
            not_different (session_case c s) ((difference-none (positions c s) (due_to c s)).1 (subst (IsPrefixOf (positions c s)) (due_in s is run is_run) prefix)) fault h;
      }

  -- what a misdelivery says of every run
  misdelivered : (whole : Bool) (fault : Fault) → Holds c whole pid fault → IsMisdelivery fault → IsMisdelivered c pid
  misdelivered whole fault h about = grind (arith, parted fault)

  -- what a tail says of every run
  unfinished : (whole : Bool) (count : ℕ) → HoldsFirst c whole pid (Tail count) → IsUnfinished c pid count
  unfinished whole count is =
      let (some, got, turns, front) = without_tail c pid whole count is in
      record { some = some; got = got; turns = turns; is_delivered = delivered false got count turns front }

  -- what a verdict says of every run
  pub in_every_run : (whole : Bool) (verdict : Verdict) → IsVerdict c whole pid verdict → HoldsInEveryRun c pid verdict
  in_every_run whole (Yes got tail turns) is = delivered whole got tail turns is
  in_every_run whole (No fault) is = (misdelivered whole fault is.holds, λ count e. unfinished whole count (subst (HoldsFirst c whole pid) e is))

  -- where the whole is asked for, a yes says that in every run what was received is all that is due
  pub all_in_every_run : (got tail turns : ℕ) → IsVerdict c true pid (Yes got tail turns) → (s : SessionLogs) → IsSession c pid s → (run : List Step) → IsRun c run
      → positions c s ≡ due c run pid
  all_in_every_run got tail turns is s one run is_run =
      let said = delivered true got tail turns is in
      let same = said.is_only s one in
      let front = said.is_front run is_run in
      let count = length-map (received_by c said.session) (λ (frame : FrameSeen). frame.position) in
      let total = said.are_all run is_run in
      let none = none_left c pid got tail turns is in
      ap (positions c) same ∙ whole_front (positions c said.session) (due c run pid) front (omega (arith, count, total, none, said.got_is))
