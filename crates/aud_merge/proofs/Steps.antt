-- What a step that is allowed does, and what one session sees of it; the cursor that a log gives.
use Rattle.std.proofs.lemmas.Bool.Decides.{nat_tests}
use Rattle.std.proofs.Common.{◌≡◌, ◌<◌, ◌≤◌, ℕ, zero, suc, [], take, Some, slice_get, arith, sym, ap, subst, ◌∙◌, ◌⊎◌, inl, inr, nat_eq, ◌+◌, true, cond, List, ◌∷◌, length, map, Option, None, unwrap_or, filter, set}
use Rattle.std.proofs.lemmas.Bool.{eqb-true, cases_eq, eq-eqb, ne_eqb}
use Rattle.std.proofs.lemmas.Option.{same_Some, none-some, slice_get_within, slice_get-map}
use Rattle.std.specs.Ordering.{nat_cmp}
use Rattle.std.specs.Cmp.Lexicographic.{slice_cmp}
use Rattle.std.specs.FinMap as fin
use Rattle.aud_tap.specs.declared.records.NodeRec.{NodeRec}
use Rattle.aud_tap.specs.declared.taps.Records.{Records}
use Rattle.aud_tap.specs.declared.taps.Records.TheVariants.{Stream, Node, Client}
use Rattle.aud_tap.specs.declared.records.StreamRec.{StreamRec}
use Rattle.aud_base.proofs.SameText.{cases_text}
use Rattle.aud_node.specs.Cluster.{Cluster, node_log, node_recs, log_at}
use Rattle.aud_node.specs.TurnRecords.{pid_of}
use Rattle.aud_node.specs.Cursors.{is_position, position_if_past, position_or, later_cursor, next_cursor, cursor_past, cursor_at}
use Rattle.aud_node.specs.Stream.{Text, position}
use Rattle.aud_merge.specs.Due.{cursor_of, cursor_in}
use Rattle.aud_rooms.proofs.Ascending.{length-numbers}
use Rattle.aud_merge.specs.declared.step.Step.{Step}
use Rattle.aud_merge.specs.declared.progress.Progress.{Progress}
use Rattle.aud_merge.specs.Machine.{State, after, after_next, after_record, after_entry, allowed_cursor, sessions_after, taken_in, taken_of, appended, start, position_if_next, session_of}
use Rattle.aud_merge.specs.Runs.{record_count, log_length, AreAllowed, IsRun}
use Rattle.aud_merge.specs.Private.RunsOn.{RunsOn}
use Rattle.aud_merge.specs.Sessions.{SessionState, Absent, session_after}
use Rattle.aud_merge.proofs.Positions.{position-take}
use Rattle.aud_merge.proofs.Basics.{and_then_parts, map_parts, cond_parts, slice_get-set_same, slice_get-set_other, get_insert_same, get_insert_other}

-- a step of the stream
pub record EntryStep (c : Cluster) (st st' : State) (l i : ℕ) : Type 0 where
  pub no_log : node_log c l ≡ []
  pub sessions : st'.sessions ≡ st.sessions
  pub cursor : cursor_of st' l ≡ cursor_of st l

-- a step of a node
pub record RecordStep (c : Cluster) (st st' : State) (l i : ℕ) : Type 0 where
  pub rec : NodeRec
  pub at : slice_get (node_log c l) i ≡ Some rec
  pub cursor : allowed_cursor (take (appended c st) c.stream) i rec (cursor_of st l) ≡ Some (cursor_of st' l)
  pub sessions : sessions_after l rec (pid_of rec) st.sessions ≡ Some st'.sessions

-- what an allowed step does: it takes its log's next record, and leaves the other logs
pub record Stepped (c : Cluster) (st st' : State) (l i : ℕ) : Type 0 where
  pub was : taken_of st l ≡ i
  pub now : taken_of st' l ≡ suc i
  pub counted : i < record_count c l
  pub others : (m : ℕ) → (m ≡ l → ⊥) → slice_get st'.logs m ≡ slice_get st.logs m
  pub kind : EntryStep c st st' l i ⊎ RecordStep c st st' l i

-- a step that leaves its log so far, with this cursor
stepped_to : (c : Cluster) (st st' : State) (l i : ℕ) (done : Progress) (log : Records) (cursor : ℕ) → slice_get st.logs l ≡ Some done → done.taken ≡ i → log_at c l ≡ Some log
    → st'.logs ≡ set st.logs l (record { taken = suc done.taken; cursor = cursor }) → done.taken < log_length (Some log)
    → (cursor_of st l ≡ done.cursor → cursor_of st' l ≡ cursor → EntryStep c st st' l i ⊎ RecordStep c st st' l i) → Stepped c st st' l i
stepped_to c st st' l i done log cursor at was is_log logs within kind =
    let here : slice_get st'.logs l ≡ Some (record { taken = suc done.taken; cursor = cursor }) = ap (λ ps. slice_get ps l) logs ∙ slice_get-set_same st.logs l _ done at in
    record {
      was = ap taken_in at ∙ was;
      now = ap taken_in here ∙ ap suc was;
      counted = subst (λ n. n < record_count c l) was (subst (λ o. done.taken < log_length o) (sym is_log) within);
      others = λ m n. ap (λ ps. slice_get ps m) logs ∙ slice_get-set_other st.logs l m _ n;
      kind = kind (ap cursor_in at) (ap cursor_in here);
    }

-- the next record of a log, where it is allowed, is taken, and the other logs stay
stepped_log : (c : Cluster) (st st' : State) (l i : ℕ) (done : Progress) (log : Records)
    → slice_get st.logs l ≡ Some done → done.taken ≡ i → log_at c l ≡ Some log → after_next c st l done log ≡ Some st'
    → Stepped c st st' l i
stepped_log c st st' l i done (Stream recs) at was log e =
    let (entry, found, became) = and_then_parts (after_entry st l done) (slice_get recs done.taken) st' e in
    let is = sym (same_Some _ st' became) in
    stepped_to c st st' l i done (Stream recs) done.cursor at was log (ap (λ (s : State). s.logs) is) (slice_get_within recs done.taken entry found)
    (λ old new. inl (record { no_log = ap node_recs log; sessions = ap (λ (s : State). s.sessions) is; cursor = new ∙ sym old }))
stepped_log c st st' l i done (Client recs) at was log e = absurd (none-some st' e)
stepped_log c st st' l i done (Node recs) at was log e =
    let (rec, found, became) = and_then_parts (after_record c st l done) (slice_get recs done.taken) st' e in
    let (cursor, moved, rest) = and_then_parts _ (allowed_cursor (take (appended c st) c.stream) done.taken rec done.cursor) st' became in
    let (sessions, kept, is) = map_parts _ (sessions_after l rec (pid_of rec) st.sessions) st' rest in
    stepped_to c st st' l i done (Node recs) cursor at was log (ap (λ (s : State). s.logs) (sym is)) (slice_get_within recs done.taken rec found)
    (λ old new.
    inr (record {
      rec = rec;
      at = ap (λ o. slice_get (node_recs o) i) log ∙ ap (λ n. slice_get recs n) (sym was) ∙ found;
      cursor = ap (λ n. allowed_cursor (take (appended c st) c.stream) n rec (cursor_of st l)) (sym was) ∙ ap (allowed_cursor (take (appended c st) c.stream) done.taken rec) old ∙ moved ∙ ap Some (sym new);
      sessions = kept ∙ ap (λ (s : State). Some s.sessions) is;
    }))

-- an allowed step takes its log's next record, and leaves the other logs
pub stepped : (c : Cluster) (st st' : State) (s : Step) → after c st s ≡ Some st' → Stepped c st st' s.log s.index
stepped c st st' s e =
    let (done, at, rest) = and_then_parts _ (slice_get st.logs s.log) st' e in
    let (was, next) = cond_parts (nat_eq done.taken s.index) _ st' rest in
    let (log, is, became) = and_then_parts (after_next c st s.log done) (log_at c s.log) st' next in
    stepped_log c st st' s.log s.index done log at (eqb-true _ _ was) is became

-- no step takes back what was taken
pub taken-grows : (c : Cluster) (st st' : State) (l i m : ℕ) → Stepped c st st' l i → taken_of st m ≤ taken_of st' m
taken-grows c st st' l i m s = grind arith

-- nor an entry that was appended
pub appended-grows : (c : Cluster) (st st' : State) (l i : ℕ) → Stepped c st st' l i → appended c st ≤ appended c st'
appended-grows c st st' l i s = grind (arith, taken-grows c st st' l i)

-- the step's record names the session
pub record Named (c : Cluster) (st st' : State) (l i : ℕ) (pid : Text) : Type 0 where
  pub rec : NodeRec
  pub at : slice_get (node_log c l) i ≡ Some rec
  pub names : pid_of rec ≡ Some pid
  pub becomes : session_after l rec (session_of st pid) ≡ Some (session_of st' pid)

-- it doesn't
pub record Quiet (c : Cluster) (st st' : State) (l i : ℕ) (pid : Text) : Type 0 where
  pub session : session_of st' pid ≡ session_of st pid
  pub other : (rec : NodeRec) → slice_get (node_log c l) i ≡ Some rec → pid_of rec ≡ Some pid → ⊥

-- a session after a record: the one that it names becomes what the record makes of it, another stays
sessions_step : (l : ℕ) (rec : NodeRec) (named : Option Text) (m m' : fin.FinMap (slice_cmp nat_cmp) SessionState) (pid : Text)
    → sessions_after l rec named m ≡ Some m'
    → ((named ≡ Some pid) × (session_after l rec (unwrap_or (fin.get m pid) Absent) ≡ Some (unwrap_or (fin.get m' pid) Absent)))
    ⊎ ((named ≡ Some pid → ⊥) × (unwrap_or (fin.get m' pid) Absent ≡ unwrap_or (fin.get m pid) Absent))
sessions_step l rec None m m' pid e = inr (λ n. none-some pid n, ap (λ x. unwrap_or (fin.get x pid) Absent) (sym (same_Some m m' e)))
sessions_step l rec (Some q) m m' pid e =
    let (session, is, put) = map_parts _ (session_after l rec (unwrap_or (fin.get m q) Absent)) m' e in
    elim (cases_text q pid) as (λ _. ((Some q ≡ Some pid) × (session_after l rec (unwrap_or (fin.get m pid) Absent) ≡ Some (unwrap_or (fin.get m' pid) Absent))) ⊎ ((Some q ≡ Some pid → ⊥) × (unwrap_or (fin.get m' pid) Absent ≡ unwrap_or (fin.get m pid) Absent))) [
      | inl same ↦ inl (ap Some same, ap (λ x. session_after l rec (unwrap_or (fin.get m x) Absent)) (sym same) ∙ is ∙ ap Some (sym (ap (λ o. unwrap_or o Absent) (ap (λ x. fin.get x pid) (sym put) ∙ ap (λ x. fin.get (fin.insert m x session) pid) same ∙ get_insert_same m pid session))))
      | inr n ↦ inr (λ named. n (same_Some q pid named), ap (λ o. unwrap_or o Absent) (ap (λ x. fin.get x pid) (sym put) ∙ get_insert_other m q session pid (λ back. n (sym back))))
    ]

-- an allowed step names the session, or leaves it as it is
pub moved : (c : Cluster) (st st' : State) (l i : ℕ) (pid : Text) → EntryStep c st st' l i ⊎ RecordStep c st st' l i → Named c st st' l i pid ⊎ Quiet c st st' l i pid
moved c st st' l i pid (inl e) =
    inr (record {
      session = ap (λ x. unwrap_or (fin.get x pid) Absent) e.sessions;
      other = λ rec at. absurd (none-some rec (ap (λ log. slice_get log i) (sym e.no_log) ∙ at));
    })
moved c st st' l i pid (inr r) = elim (sessions_step l r.rec (pid_of r.rec) st.sessions st'.sessions pid r.sessions) as (λ _. Named c st st' l i pid ⊎ Quiet c st st' l i pid) [
  | inl named ↦ inl (record { rec = r.rec; at = r.at; names = named.0; becomes = named.1 })
  | inr quiet ↦ inr (record { session = quiet.1; other = λ rec at names. quiet.0 (ap pid_of (same_Some _ _ (sym r.at ∙ at)) ∙ names) })
]

-- a position passes the test for itself
pub is_position-at : (o : Option ℕ) (p : ℕ) → o ≡ Some p → is_position o p ≡ true
is_position-at o p e = grind (arith, nat_tests)

-- where there is a next position, it is the one after the cursor
pub next_position-at : (o : Option ℕ) (cursor next : ℕ) → position_if_next o cursor ≡ Some next → (o ≡ Some (suc cursor)) × (suc cursor ≡ next)
next_position-at o cursor next e = grind (arith, nat_tests)

-- the cursor after an allowed `take` is the one that the log alone gives
taken-allowed : (a : ℕ) (stream : List StreamRec) (off : Text) (cursor next : ℕ)
    → position_if_next (position (take a stream) off) cursor ≡ Some next
    → cond (is_position (position stream off) (suc cursor)) (suc cursor) cursor ≡ next
taken-allowed a stream off cursor next e = grind (arith, next_position-at (position (take a stream) off) cursor next e, is_position-at (position stream off) (suc cursor), position-take a stream off (suc cursor))

-- where there is a position past the cursor, it is this one
pub past_position-at : (o : Option ℕ) (cursor next : ℕ) → position_if_past o cursor ≡ Some next → (o ≡ Some next) × (cursor < next)
past_position-at o cursor next e = grind (arith, nat_tests)

-- the cursor after an allowed `takes` is the one that the log alone gives
passed-allowed : (a : ℕ) (stream : List StreamRec) (off : Text) (cursor next : ℕ)
    → position_if_past (position (take a stream) off) cursor ≡ Some next
    → position_or (position_if_past (position stream off) cursor) cursor ≡ next
passed-allowed a stream off cursor next e = grind (arith, nat_tests, past_position-at (position (take a stream) off) cursor next e, position-take a stream off next)

-- the cursor that an allowed record leaves is the one that the log alone gives
pub next_cursor-allowed : (a : ℕ) (stream : List StreamRec) (i : ℕ) (rec : NodeRec) (cursor next : ℕ)
    → allowed_cursor (take a stream) i rec cursor ≡ Some next → next_cursor stream i rec cursor ≡ next
next_cursor-allowed a stream i rec cursor next e = grind (arith, taken-allowed a stream, passed-allowed a stream, position-take a stream)

-- the state's cursors are those that the logs give
abbrev pub Synced : Cluster → State → Type 0
Synced c st = (l : ℕ) → cursor_of st l ≡ cursor_at c.stream (node_log c l) (taken_of st l)

-- at the start the cursors are those of the logs
pub Synced-start : (c : Cluster) → Synced c (start c)
Synced-start c l = grind (arith, slice_get-map)

-- and each step keeps them so
pub Synced-step : (c : Cluster) (st st' : State) (l i : ℕ) → Stepped c st st' l i → Synced c st → Synced c st'
Synced-step c st st' l i s synced m = go (cases_eq m l)
  where
    before : cursor_of st l ≡ cursor_at c.stream (node_log c l) i
    before = synced l ∙ ap (λ n. cursor_at c.stream (node_log c l) n) s.was

    by_kind : EntryStep c st st' l i ⊎ RecordStep c st st' l i → cursor_of st' l ≡ cursor_at c.stream (node_log c l) (suc i)
    by_kind (inl e) = e.cursor ∙ before ∙ ap (λ o. cursor_past c.stream i o (cursor_at c.stream (node_log c l) i)) (sym (ap (λ log. slice_get log i) e.no_log))
    by_kind (inr r) =
        sym (next_cursor-allowed (appended c st) c.stream i r.rec (cursor_of st l) (cursor_of st' l) r.cursor)
        ∙ ap (λ n. next_cursor c.stream i r.rec n) before
        ∙ ap (λ o. cursor_past c.stream i o (cursor_at c.stream (node_log c l) i)) (sym r.at)

    go : (m ≡ l) ⊎ (m ≡ l → ⊥) → cursor_of st' m ≡ cursor_at c.stream (node_log c m) (taken_of st' m)
    go (inl e) = subst (λ (n : ℕ). cursor_of st' n ≡ cursor_at c.stream (node_log c n) (taken_of st' n)) (sym e) (by_kind s.kind ∙ ap (λ n. cursor_at c.stream (node_log c l) n) (sym s.now))
    go (inr n) = ap cursor_in (s.others m n) ∙ synced m ∙ ap (λ o. cursor_at c.stream (node_log c m) (taken_in o)) (sym (s.others m n))

-- a log's record after the first one moves the cursor there
pub cursor-moves : (stream : List StreamRec) (log : List NodeRec) (i : ℕ) (rec : NodeRec) → 0 < i → slice_get log i ≡ Some rec → cursor_at stream log (suc i) ≡ later_cursor stream rec (cursor_at stream log i)
cursor-moves stream log zero rec h at = absurd (omega arith)
cursor-moves stream log (suc i) rec h at = ap (λ o. cursor_past stream (suc i) o (cursor_at stream log (suc i))) at

-- the numbers of the steps of one log
abbrev pub steps_of : ℕ → List Step → List ℕ
steps_of l steps = map (λ (s : Step). s.index) (filter (λ (s : Step). nat_eq s.log l) steps)

-- each step takes one from what is left of its log
counted : (c : Cluster) (st next : State) (s : Step) (steps : List Step) → Stepped c st next s.log s.index → (l : ℕ)
    → length (steps_of l (s ∷ steps)) + taken_of st l ≡ record_count c l → length (steps_of l steps) + taken_of next l ≡ record_count c l
counted c st next s steps moved l h = grind (arith, eq-eqb s.log l, ne_eqb s.log l)

-- so allowed steps that are all of the logs are the rest of a run
runs_on : (c : Cluster) (st : State) (steps : List Step) → AreAllowed c st steps → ((l : ℕ) → length (steps_of l steps) + taken_of st l ≡ record_count c l) → RunsOn c st steps
runs_on c st [] allowed left = λ l. omega (arith, left l)
runs_on c st (s ∷ steps) allowed left =
    let (next, at, later) = allowed in
    (next, at, runs_on c next steps later (λ l. counted c st next s steps (stepped c st next s at) l (left l)))

-- at the start nothing is taken
pub taken-start : (c : Cluster) (l : ℕ) → taken_of (start c) l ≡ 0
taken-start c l = grind (arith, slice_get-map)

-- a run is the rest of a run from the start on
pub RunsOn-run : (c : Cluster) (run : List Step) → IsRun c run → RunsOn c (start c) run
RunsOn-run c run is = runs_on c (start c) run is.allowed (λ l. let merged = ap length (is.merges l) ∙ length-numbers 0 (record_count c l) in omega (arith, merged, taken-start c l))
