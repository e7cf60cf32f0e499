-- Where a run exists, an allowed step stays allowed until it is taken; so where the machine blocks, there is none.
use Rattle.std.proofs.lemmas.Bool.Decides.{nat_tests}
use Rattle.aud_node.specs.Cursors.{position_if_past}
use Rattle.std.proofs.Common.{◌≡◌, ◌<◌, ◌≤◌, ℕ, zero, suc, true, cond, List, [], ◌∷◌, set, take, Option, Some, None, slice_get, refl, sym, ap, subst, ◌∙◌, ◌⊎◌, inl, inr, nat_eq, unwrap_or, arith, option_map, option_and_then, ◌≢◌, ◌+◌, length, is_some}
use Rattle.std.specs.Ordering.{nat_cmp}
use Rattle.std.specs.Cmp.Lexicographic.{slice_cmp, nat_list_cmp_total}
use Rattle.std.specs.FinMap as fin
use Rattle.std.proofs.lemmas.Bool.{eqb-true, eq-eqb, cases_eq, false≢true, cases_lt, ltb-true, cases_Bool}
use Rattle.std.proofs.lemmas.Option.{same_Some, none-some, slice_get_past}
use Rattle.std.proofs.lemmas.List.{set_comm}
use Rattle.aud_tap.specs.declared.records.StreamRec.{StreamRec}
use Rattle.aud_tap.specs.declared.records.NodeRec.{NodeRec}
use Rattle.aud_tap.specs.declared.taps.Records.{Records}
use Rattle.aud_tap.specs.declared.taps.Records.TheVariants.{Stream, Node, Client}
use Rattle.aud_base.proofs.SameText.{same_text}
use Rattle.aud_node.specs.Cluster.{Cluster, node_log, node_recs, log_at}
use Rattle.aud_node.specs.Stream.{Text, position}
use Rattle.aud_node.specs.TurnRecords.{pid_of, begins_turn}
use Rattle.aud_rooms.specs.Turns.{Who}
use Rattle.aud_merge.specs.declared.step.Step.{Step}
use Rattle.aud_merge.specs.declared.progress.Progress.{Progress}
use Rattle.aud_merge.specs.Machine.{State, start, after, after_next, after_record, after_entry, allowed_cursor, position_if_next, sessions_after, session_of, taken_of, appended, taken_in}
use Rattle.aud_merge.specs.Runs.{record_count, IsRun, AreAllowed, IsBlocked, state_after, front}
use Rattle.aud_merge.specs.Private.RunsOn.{RunsOn}
use Rattle.aud_merge.specs.Sessions.{SessionState, Absent, Here, Away, Ended, session_after}
use Rattle.aud_merge.specs.Order.{first_allowed, IsGreedy, unfinished_fronts, IsBlockedAt}
use Rattle.aud_merge.proofs.Positions.{position-more}
use Rattle.aud_merge.proofs.Basics.{and_then_parts, map_parts, cond_parts, slice_get-set_other, get_insert, get_insert_other}
use Rattle.aud_merge.proofs.Steps.{Stepped, stepped, appended-grows, Named, next_position-at, past_position-at, RunsOn-run, moved}
use Rattle.aud_merge.proofs.Records.{here-node, ended-after, waiting-after, begins-beyond}
use Rattle.aud_merge.proofs.Phases.{never_again}

-- the sessions by pid
abbrev pub Sessions : Type 0
Sessions = fin.FinMap (slice_cmp nat_cmp) SessionState

-- the sessions after a step, which changes one of them or none
abbrev pub put_in : Option (Text × SessionState) → Sessions → Sessions
put_in None m = m
put_in (Some x) m = fin.insert m x.0 x.1

-- the session that a step changes is the same in both
abbrev pub SameAt : Option (Text × SessionState) → Sessions → Sessions → Type 0
SameAt None m u = Unit {0}
SameAt (Some x) m u = fin.get u x.0 ≡ fin.get m x.0

-- a state with the changes of one step
abbrev pub done_to : State → ℕ → Progress → Option (Text × SessionState) → State
done_to u l p put = record { logs = set u.logs l p; sessions = put_in put u.sessions }

-- the session that a step changes is named by the step's record
abbrev pub NamedPut : Cluster → State → State → ℕ → ℕ → Option (Text × SessionState) → Type 0
NamedPut c st st' l i None = Unit {0}
NamedPut c st st' l i (Some x) = Named c st st' l i x.0

-- what an allowed step does, it does in each later state in which its log and its session are the same
pub record Does (c : Cluster) (st st' : State) (s : Step) : Type 0 where
  pub p : Progress
  pub put : Option (Text × SessionState)
  is : st' ≡ done_to st s.log p put
  pub named : NamedPut c st st' s.log s.index put
  again : (u : State) → slice_get u.logs s.log ≡ slice_get st.logs s.log → appended c st ≤ appended c u → SameAt put st.sessions u.sessions → after c u s ≡ Some (done_to u s.log p put)

-- with more entries appended, a `take` that was allowed still is, and leaves the same cursor
taken-more : (a b : ℕ) (stream : List StreamRec) (off : Text) (cursor next : ℕ) → a ≤ b → position_if_next (position (take a stream) off) cursor ≡ Some next → position_if_next (position (take b stream) off) cursor ≡ Some next
taken-more a b stream off cursor next h e = grind (arith, next_position-at (position (take a stream) off) cursor next e, position-more a b stream off (suc cursor) h)

-- so does a `takes`
passed-more : (a b : ℕ) (stream : List StreamRec) (off : Text) (cursor next : ℕ) → a ≤ b → position_if_past (position (take a stream) off) cursor ≡ Some next → position_if_past (position (take b stream) off) cursor ≡ Some next
passed-more a b stream off cursor next h e = grind (arith, nat_tests, past_position-at (position (take a stream) off) cursor next e, position-more a b stream off next h)

-- with more entries appended, any record that was allowed still is, and leaves the same cursor
cursor_after-more : (a b : ℕ) (stream : List StreamRec) (i : ℕ) (rec : NodeRec) (cursor next : ℕ) → a ≤ b → allowed_cursor (take a stream) i rec cursor ≡ Some next → allowed_cursor (take b stream) i rec cursor ≡ Some next
cursor_after-more a b stream i rec cursor next h e = grind (arith, position-more a b stream, taken-more a b stream, passed-more a b stream)

-- what a record does to the sessions
record Puts (l : ℕ) (rec : NodeRec) (named : Option Text) (m m' : Sessions) : Type 0 where
  pub put : Option (Text × SessionState)
  is : m' ≡ put_in put m
  again : (u : Sessions) → SameAt put m u → sessions_after l rec named u ≡ Some (put_in put u)
  names : option_map (λ (x : Text × SessionState). x.0) put ≡ named

-- an allowed record changes one session or none, and does so wherever that session is the same
puts : (l : ℕ) (rec : NodeRec) (named : Option Text) (m m' : Sessions) → sessions_after l rec named m ≡ Some m' → Puts l rec named m m'
puts l rec None m m' e = record { put = None; is = sym (same_Some m m' e); again = λ u _. refl; names = refl }
puts l rec (Some pid) m m' e =
    let (session, allowed, put) = map_parts _ (session_after l rec (unwrap_or (fin.get m pid) Absent)) m' e in
    record {
      put = Some (pid, session);
      is = sym put;
      again = λ u same. ap (λ o. option_map (λ s. fin.insert u pid s) (session_after l rec (unwrap_or o Absent))) same ∙ ap (option_map (λ s. fin.insert u pid s)) allowed;
      names = refl;
    }

-- the session that is put is the one that the record names
named_put : (c : Cluster) (st st' : State) (l i : ℕ) (rec : NodeRec) → Stepped c st st' l i → slice_get (node_log c l) i ≡ Some rec
    → (put : Option (Text × SessionState)) → option_map (λ (x : Text × SessionState). x.0) put ≡ pid_of rec → NamedPut c st st' l i put
named_put c st st' l i rec step at put names = grind (arith, moved c st st' l i)

-- a step on a log of which as many records were taken does that log's next record
after-at : (c : Cluster) (u : State) (s : Step) (done : Progress) (log : Records) → slice_get u.logs s.log ≡ Some done → done.taken ≡ s.index → log_at c s.log ≡ Some log → after c u s ≡ after_next c u s.log done log
after-at c u s done log at was is = grind (arith, eq-eqb done.taken s.index was, is)

-- an allowed step of a log does the same in any later state in which its log and session are the same
does_log : (c : Cluster) (st st' : State) (s : Step) (done : Progress) (log : Records) → Stepped c st st' s.log s.index → slice_get st.logs s.log ≡ Some done → done.taken ≡ s.index → log_at c s.log ≡ Some log → after_next c st s.log done log ≡ Some st' → Does c st st' s
does_log c st st' s done (Client recs) step at was log e = absurd (none-some st' e)
does_log c st st' s done (Stream recs) step at was log e =
    let (entry, found, became) = and_then_parts (after_entry st s.log done) (slice_get recs done.taken) st' e in
    record {
      p = record { taken = suc done.taken; cursor = done.cursor };
      put = None;
      is = sym (same_Some _ _ became);
      named = tt;
      again = λ u same _ _. after-at c u s done (Stream recs) (same ∙ at) was log ∙ ap (option_and_then (after_entry u s.log done)) found;
    }
does_log c st st' s done (Node recs) step at was log e =
    let (rec, found, became) = and_then_parts (after_record c st s.log done) (slice_get recs done.taken) st' e in
    let (cursor, moved, rest) = and_then_parts _ (allowed_cursor (take (appended c st) c.stream) done.taken rec done.cursor) st' became in
    let (sessions, kept, is) = map_parts _ (sessions_after s.log rec (pid_of rec) st.sessions) st' rest in
    let ps : Puts s.log rec (pid_of rec) st.sessions sessions = puts s.log rec (pid_of rec) st.sessions sessions kept in
    record {
      p = record { taken = suc done.taken; cursor = cursor };
      put = ps.put;
      is = sym is ∙ ap (λ (m : Sessions). record { logs = set st.logs s.log (record { taken = suc done.taken; cursor = cursor }); sessions = m }) ps.is;
      named = named_put c st st' s.log s.index rec step (ap (λ o. slice_get (node_recs o) s.index) log ∙ ap (slice_get recs) (sym was) ∙ found) ps.put ps.names;
      again = λ u same more at_session.
          after-at c u s done (Node recs) (same ∙ at) was log
          ∙ ap (option_and_then (after_record c u s.log done)) found
          ∙ ap (option_and_then (λ cursor. option_map (λ (sessions : Sessions). record { logs = set u.logs s.log (record { taken = suc done.taken; cursor = cursor }); sessions = sessions }) (sessions_after s.log rec (pid_of rec) u.sessions))) (cursor_after-more (appended c st) (appended c u) c.stream done.taken rec done.cursor cursor more moved)
          ∙ ap (option_map (λ (sessions : Sessions). record { logs = set u.logs s.log (record { taken = suc done.taken; cursor = cursor }); sessions = sessions })) (ps.again u.sessions at_session);
    }

-- an allowed step does the same in any later state in which its log and session are the same
pub does : (c : Cluster) (st st' : State) (s : Step) → after c st s ≡ Some st' → Does c st st' s
does c st st' s e =
    let (done, at, rest) = and_then_parts _ (slice_get st.logs s.log) st' e in
    let (was, next) = cond_parts (nat_eq done.taken s.index) _ st' rest in
    let (log, is, became) = and_then_parts (after_next c st s.log done) (log_at c s.log) st' next in
    does_log c st st' s done log (stepped c st st' s e) at (eqb-true _ _ was) is became

-- two different sessions can be put in in either order
insert_comm : (m : Sessions) (x y : Text × SessionState) → (x.0 ≡ y.0 → ⊥) → fin.insert (fin.insert m x.0 x.1) y.0 y.1 ≡ fin.insert (fin.insert m y.0 y.1) x.0 x.1
insert_comm m x y n = fin.same_map nat_list_cmp_total (fin.slice_cmp-IsAntisymmetric fin.nat_cmp-IsAntisymmetric) _ _ (λ q. grind (arith, get_insert, same_text q))

-- the sessions of two steps differ
abbrev Apart : Option (Text × SessionState) → Option (Text × SessionState) → Type 0
Apart None y = Unit {0}
Apart (Some x) None = Unit {0}
Apart (Some x) (Some y) = x.0 ≡ y.0 → ⊥

-- the changes of two steps of different sessions can be made in either order
put_comm : (m : Sessions) (x y : Option (Text × SessionState)) → Apart x y → put_in y (put_in x m) ≡ put_in x (put_in y m)
put_comm m (Some x) (Some y) apart = insert_comm m x y apart
put_comm m _ _ apart = refl

-- a change of another session leaves this one
same_after : (m : Sessions) (x y : Option (Text × SessionState)) → Apart x y → SameAt x m (put_in y m)
same_after m None y apart = tt
same_after m (Some x) None apart = refl
same_after m (Some x) (Some y) apart = get_insert_other m y.0 y.1 x.0 apart

-- where one step's session differs from another's, the other's differs from it
apart_turned : (x y : Option (Text × SessionState)) → Apart x y → Apart y x
apart_turned x y apart = grind arith

-- what two steps of different logs and different sessions do, they do in either order
twice_comm : (st : State) (l m : ℕ) (p q : Progress) (x y : Option (Text × SessionState)) → (l ≡ m → ⊥) → Apart x y
    → done_to (done_to st l p x) m q y ≡ done_to (done_to st m q y) l p x
twice_comm st l m p q x y n apart =
    let logs : set (set st.logs l p) m q ≡ set (set st.logs m q) l p = set_comm st.logs l m p q n in
    let sessions : put_in y (put_in x st.sessions) ≡ put_in x (put_in y st.sessions) = put_comm st.sessions x y apart in
    λ i. record { logs = logs i; sessions = sessions i }

-- the second step is allowed after the first one
allowed-after : (c : Cluster) (st st1 st2 : State) (x s : Step) (dx : Does c st st1 x) (ds : Does c st st2 s) → after c st s ≡ Some st2 → (x.log ≡ s.log → ⊥) → Apart dx.put ds.put
    → after c st2 x ≡ Some (done_to (done_to st s.log ds.p ds.put) x.log dx.p dx.put)
allowed-after c st st1 st2 x s dx ds e n apart = grind (arith, slice_get-set_other st.logs s.log x.log ds.p n, appended-grows c st st2 s.log s.index (stepped c st st2 s e), stepped c st st2 s e, same_after st.sessions dx.put ds.put apart, apart)

-- both records begin one turn of the session
record BothBegin (pid : Text) (one other : NodeRec) : Type 0 where
  k : ℕ
  one_begins : begins_turn pid k one ≡ true
  other_begins : begins_turn pid k other ≡ true

-- two records of different nodes are allowed of one session only if they begin the same turn
both_begin : (pid : Text) (l m : ℕ) (one other : NodeRec) (s s1 s2 : SessionState) → (l ≡ m → ⊥) → pid_of one ≡ Some pid → pid_of other ≡ Some pid
    → session_after l one s ≡ Some s1 → session_after m other s ≡ Some s2 → BothBegin pid one other
both_begin pid l m one other Absent s1 s2 n names names' e e' =
    let who : Who = record { pid = pid; sid = []; nsp = [] } in
    record { k = 0; one_begins = waiting-after l who 0 fin.empty one s1 names e; other_begins = waiting-after m who 0 fin.empty other s2 names' e' }
both_begin pid l m one other (Here at turn sid nsp rooms) s1 s2 n names names' e e' =
    absurd (n (sym (here-node l one at turn sid nsp rooms s1 e) ∙ here-node m other at turn sid nsp rooms s2 e'))
both_begin pid l m one other (Away turn sid nsp rooms) s1 s2 n names names' e e' =
    let who : Who = record { pid = pid; sid = sid; nsp = nsp } in
    record { k = suc turn; one_begins = waiting-after l who (suc turn) rooms one s1 names e; other_begins = waiting-after m who (suc turn) rooms other s2 names' e' }
both_begin pid l m one other Ended s1 s2 n names names' e e' = absurd (ended-after l one s1 e)

-- where the rest of a run takes one of two allowed steps of different logs first, the steps' sessions differ
apart : (c : Cluster) (st st1 st2 : State) (x s : Step) (dx : Does c st st1 x) (ds : Does c st st2 s) → (x.log ≡ s.log → ⊥)
    → Stepped c st st1 x.log x.index → Stepped c st st2 s.log s.index → (steps : List Step) → RunsOn c st2 steps → Apart dx.put ds.put
apart c st st1 st2 x s dx ds n sx ss steps runs = go dx.put ds.put dx.named ds.named
  where
    left : taken_of st2 x.log ≤ x.index
    left =
        let kept : taken_of st2 x.log ≡ taken_of st x.log = ap taken_in (ss.others x.log n) in
        let was = sx.was in
        omega (arith, kept, was)

    conflict : (pid : Text) → Named c st st1 x.log x.index pid → Named c st st2 s.log s.index pid → ⊥
    conflict pid nx ns =
        let both = both_begin pid x.log s.log nx.rec ns.rec (session_of st pid) (session_of st1 pid) (session_of st2 pid) n nx.names ns.names nx.becomes ns.becomes in
        never_again c pid both.k x.log x.index nx.rec nx.at both.one_begins steps st2 runs
        (begins-beyond s.log pid both.k ns.rec (session_of st pid) (session_of st2 pid) both.other_begins ns.becomes) left

    go : (a b : Option (Text × SessionState)) → NamedPut c st st1 x.log x.index a → NamedPut c st st2 s.log s.index b → Apart a b
    go None b na nb = tt
    go (Some a) None na nb = tt
    go (Some a) (Some b) na nb = λ e. conflict b.0 (subst (Named c st st1 x.log x.index) e na) nb

-- AN ALLOWED STEP may be taken at once, where the rest of a run is there
exchange : (c : Cluster) (steps : List Step) (st : State) → RunsOn c st steps → (x : Step) (st1 : State) → after c st x ≡ Some st1 → (rest : List Step) × RunsOn c st1 rest
exchange c [] st finished x st1 e = grind (arith, stepped c st st1 x e)
exchange c (s ∷ steps) st runs x st1 e = go (cases_eq x.log s.log) (λ st2 st3 later allowed. exchange c steps st2 later x st3 allowed)
  where
    same_step : (st2 : State) → after c st s ≡ Some st2 → x.log ≡ s.log → st2 ≡ st1
    same_step st2 allowed same =
        let index : s.index ≡ x.index = sym (stepped c st st2 s allowed).was ∙ ap (taken_of st) (sym same) ∙ (stepped c st st1 x e).was in
        same_Some st2 st1 (sym allowed ∙ ap (λ l. after c st (record { log = l; index = s.index })) (sym same) ∙ ap (λ i. after c st (record { log = x.log; index = i })) index ∙ e)

    go : (x.log ≡ s.log) ⊎ (x.log ≡ s.log → ⊥) → ((st2 st3 : State) → RunsOn c st2 steps → after c st2 x ≡ Some st3 → (rest : List Step) × RunsOn c st3 rest) → (rest : List Step) × RunsOn c st1 rest
    go (inl same) ih =
        let (st2, allowed, later) = runs in
        (steps, subst (λ (u : State). RunsOn c u steps) (same_step st2 allowed same) later)
    go (inr n) ih =
        let (st2, allowed, later) = runs in
        let dx = does c st st1 x e in
        let ds = does c st st2 s allowed in
        let far = apart c st st1 st2 x s dx ds n (stepped c st st1 x e) (stepped c st st2 s allowed) steps later in
        let (rest, ends) = ih st2 _ later (allowed-after c st st1 st2 x s dx ds allowed n far) in
        let first : after c st1 s ≡ Some (done_to (done_to st x.log dx.p dx.put) s.log ds.p ds.put) =
        allowed-after c st st2 st1 s x ds dx e (λ e. n (sym e)) (apart_turned dx.put ds.put far) in
        let same : done_to (done_to st x.log dx.p dx.put) s.log ds.p ds.put ≡ done_to (done_to st s.log ds.p ds.put) x.log dx.p dx.put =
        twice_comm st x.log s.log dx.p ds.p dx.put ds.put n far in
        (s ∷ rest, (_, first ∙ ap Some same, ends))

-- what was allowed to be taken from the start leaves the rest of a run
pub goes_on : (c : Cluster) (steps : List Step) (st : State) → AreAllowed c st steps → (run : List Step) → RunsOn c st run → (rest : List Step) × RunsOn c (state_after c st steps) rest
goes_on c [] st allowed run runs = (run, runs)
goes_on c (s ∷ steps) st allowed run runs = grind (arith, goes_on c steps, exchange c run st runs s)

-- where no log's next record is allowed and some log has more, nothing is the rest of a run
no_first : (c : Cluster) (st : State) (l : ℕ) → taken_of st l < record_count c l → ((place : ℕ) → after c st (front st place) ≡ None) → (rest : List Step) → RunsOn c st rest → ⊥
no_first c st l more blocked [] finished = let all = finished l in omega (arith, all, more)
no_first c st l more blocked (s ∷ rest) runs = grind (arith, stepped c st)

-- WHERE A MACHINE BLOCKS, no run exists
pub blocked-no_run : (c : Cluster) (steps : List Step) → IsBlocked c steps → (run : List Step) → IsRun c run → ⊥
blocked-no_run c steps b run is = grind (arith, goes_on c steps (start c) b.allowed run (RunsOn-run c run is), RunsOn-run c run is, is, no_first c (state_after c (start c) steps) b.unfinished b.has_more b.blocked)

-- where a run exists, an allowed step stays allowed until its log's next step is taken
pub stays_allowed : (c : Cluster) (steps : List Step) (run : List Step) → IsRun c run → AreAllowed c (start c) steps
    → (x s : Step) (st1 st2 : State) → after c (state_after c (start c) steps) x ≡ Some st1 → after c (state_after c (start c) steps) s ≡ Some st2 → (x.log ≡ s.log → ⊥)
    → (st3 : State) × (after c st2 x ≡ Some st3)
stays_allowed c steps run is allowed x s st1 st2 ex es n =
    let st = state_after c (start c) steps in
    let (rest, left) = goes_on c steps (start c) allowed run (RunsOn-run c run is) in
    let (later, goes) = exchange c rest st left s st2 es in
    let dx = does c st st1 x ex in
    let ds = does c st st2 s es in
    (_, allowed-after c st st1 st2 x s dx ds es n (apart c st st1 st2 x s dx ds n (stepped c st st1 x ex) (stepped c st st2 s es) later goes))

-- a test says that there is something: there is
pub some-is : {A : Type 0} (o : Option A) → is_some o ≡ true → (x : A) × (o ≡ Some x)
some-is None e = absurd (false≢true e)
some-is (Some x) e = (x, refl)

-- what is chosen is allowed
chosen : (c : Cluster) (st : State) (count place : ℕ) (step : Step) → first_allowed c st place count ≡ Some step → (next : State) × (after c st step ≡ Some next)
chosen c st zero place step e = absurd (none-some step e)
chosen c st (suc count) place step e = elim (cases_Bool (is_some (after c st (front st place)))) as (λ _. (next : State) × (after c st step ≡ Some next)) [
  | inl b ↦
      let (next, at) = some-is (after c st (front st place)) b in
      let is : front st place ≡ step = same_Some _ step (sym (ap (λ t. cond t (Some (front st place)) (first_allowed c st (suc place) count)) b) ∙ e) in
      (next, ap (after c st) (sym is) ∙ at)
  | inr b ↦ chosen c st count (suc place) step (sym (ap (λ t. cond t (Some (front st place)) (first_allowed c st (suc place) count)) b) ∙ e)
]

-- steps that are chosen so are allowed, one after the other
pub greedy-allowed : (c : Cluster) (steps : List Step) (st : State) → IsGreedy c st steps → AreAllowed c st steps
greedy-allowed c [] st g = tt
greedy-allowed c (s ∷ steps) st g =
    let (next, at) = chosen c st (length c.taps) 0 s g.0 in
    (next, at, greedy-allowed c steps next (subst (λ o. IsGreedy c (unwrap_or o st) steps) at g.1))

-- where none is chosen, none is allowed
none_chosen : (c : Cluster) (st : State) (count place : ℕ) → first_allowed c st place count ≡ None → (q : ℕ) → place ≤ q → q < place + count → after c st (front st q) ≡ None
none_chosen c st zero place e q low high = absurd (omega arith)
none_chosen c st (suc count) place e q low high = go (after c st (front st place)) refl e (cases_lt place q) (λ e' low'. none_chosen c st count (suc place) e' q low' (omega arith))
  where
    go : (o : Option State) → after c st (front st place) ≡ o → cond (is_some o) (Some (front st place)) (first_allowed c st (suc place) count) ≡ None → (place < q) ⊎ (q ≤ place)
        → (first_allowed c st (suc place) count ≡ None → suc place ≤ q → after c st (front st q) ≡ None) → after c st (front st q) ≡ None
    go (Some next) at e x ih = absurd (none-some (front st place) (sym e))
    go None at e (inl l) ih = ih e l
    go None at e (inr l) ih = let same : place ≡ q = omega (arith, low) in subst (λ n. after c st (front st n) ≡ None) same at

-- nor at a place that has no log
no_log : (c : Cluster) (st : State) (q : ℕ) → length c.taps ≤ q → after c st (front st q) ≡ None
no_log c st q h = grind (arith, stepped c st, slice_get_past c.taps q h)

-- where there is a next record that is left, some log is unfinished
has_unfinished : (c : Cluster) (st : State) (count place : ℕ) → unfinished_fronts c st place count ≢ [] → (q : ℕ) × (taken_of st q < record_count c q)
has_unfinished c st zero place n = absurd (n refl)
has_unfinished c st (suc count) place n = grind (arith, has_unfinished c st count (suc place), ltb-true (taken_of st place) (record_count c place))

-- where the choice blocks, no run exists
pub greedily_blocked-no_run : (c : Cluster) (fronts : List Step) → IsBlockedAt c fronts → (run : List Step) → IsRun c run → ⊥
greedily_blocked-no_run c fronts b run is = grind (arith, has_unfinished c, blocked-no_run c b.steps, greedy-allowed c b.steps (start c) b.greedy, none_chosen c (state_after c (start c) b.steps) (length c.taps) 0 b.none_left, no_log c (state_after c (start c) b.steps))
