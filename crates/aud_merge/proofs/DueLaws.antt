-- In a run, the session reaches each position when, and with the rooms that, its turns tell; so what is due is due by
-- them.
use Rattle.std.proofs.Common.{◌≡◌, ℕ, suc, Bool, true, false, cond, List, [], ◌∷◌, map, find, Option, Some, None, slice_get, refl, sym, ap, subst, ◌∙◌, inl, inr, arith, option_map, option_and_then, unwrap_or, ◌<◌, ◌≤◌, zero, ◌&&◌, ◌++◌, length, filter, ◌⊎◌, nat_le}
use Rattle.std.proofs.lemmas.Bool.{cases_Bool, cond_both, cases_lt, le-leb, lt-leb, and_left, and_right}
use Rattle.std.specs.Ordering.{nat_cmp}
use Rattle.std.specs.Cmp.Lexicographic.{slice_cmp}
use Rattle.std.specs.FinMap as fin
use Rattle.std.proofs.lemmas.Option.{slice_get_within}
use Rattle.std.proofs.lemmas.List.Elements.{filter_agree}
use Rattle.aud_base.proofs.Lists.{between-none}
use Rattle.aud_base.proofs.Numbers.{lt_false}
use Rattle.aud_base.proofs.Truth.{and_true}
use Rattle.aud_node.specs.Cluster.{Cluster, node_log}
use Rattle.aud_node.specs.Lists.{first_index}
use Rattle.aud_node.specs.Stream.{Text, entry, positions_after}
use Rattle.aud_node.proofs.RecordLemmas.{cursor_at-rises}
use Rattle.aud_node.specs.Cursors.{cursor_at}
use Rattle.aud_rooms.specs.Turns.{Who, slice_of, Turn, Slice, AreTurns, HasNoTurn, IsChain}
use Rattle.aud_rooms.specs.Rooms.{Rooms, own_room}
use Rattle.aud_rooms.specs.TurnsDue.{is_past_first, is_for_rooms, is_turn_due, turns_due, greatest_high}
use Rattle.aud_rooms.proofs.ByTurns.{rooms_for-up_to, rooms_for-past}
use Rattle.aud_rooms.proofs.Turns.{begins-names, stands, begins_there}
use Rattle.aud_merge.specs.ByTurns.{FallsAfter, HasRooms, IsPrefixOf, reaching_step, rooms_of_turns}
use Rattle.aud_merge.specs.Due.{is_reached, states_from, cursor_of, node_cursor, is_at_least, states, reach, session_at_reach, birth, is_past_birth, is_for_session, is_due, due}
use Rattle.aud_merge.specs.declared.step.Step.{Step}
use Rattle.aud_merge.specs.Machine.{State, after, session_of, start}
use Rattle.aud_merge.specs.Private.RunsOn.{IsFinished, RunsOn}
use Rattle.aud_merge.specs.Sessions.{SessionState, Absent}
use Rattle.aud_merge.specs.Runs.{IsRun}
use Rattle.aud_merge.proofs.Steps.{stepped, Synced, Synced-step, moved, Synced-start, RunsOn-run, taken-start}
use Rattle.aud_merge.proofs.Spots.{rooms_for-at_low, rooms_left, spot_reached, Settled, reached-spot, Moves-rooms, step_left, Moves-step}
use Rattle.aud_merge.proofs.Phases.{length-count, In, Spot, Waiting, Within, Holds, moves_on, Unstarted, Out, begun_at, out_stays, reached-here}

-- the session when it first reaches the position, from this state on
abbrev pub judged : Cluster → Text → ℕ → State → List Step → Option SessionState
judged c pid p st steps = option_map (λ s. session_of s pid) (find (is_reached pid p) (states_from c st steps))

-- what stands at the first index is what is found
pub first_index-find : {X Y : Type 0} (test : X → Bool) (f : X → Option Y) (xs : List X)
    → option_and_then (λ t. option_and_then f (slice_get xs t)) (first_index test xs) ≡ option_and_then f (find test xs)
first_index-find test f [] = refl
first_index-find test f (x ∷ xs) = grind (arith, first_index-find test f xs)

-- the same where a function without an option is applied
pub first_index-find-map : {X Y : Type 0} (test : X → Bool) (f : X → Y) (xs : List X)
    → option_and_then (λ t. option_map f (slice_get xs t)) (first_index test xs) ≡ option_map f (find test xs)
first_index-find-map test f [] = refl
first_index-find-map test f (x ∷ xs) = grind (arith, first_index-find-map test f xs)

module _ (c : Cluster) (who : Who) (last : ℕ) (p : ℕ) where
  -- where the session is reached, the turns say so
  now : (st : State) (spot : Spot) → Holds c who last st spot → spot_reached c spot p ≡ true → HasRooms who (Some (session_of st who.pid)) (rooms_left c who spot p)
  now st spot holds reached = grind (arith, rooms_for-at_low c.stream who.pid, cursor_at-rises c.stream)

  -- at the end of the run, what isn't reached is never reached
  never : (st : State) (spot : Spot) → Holds c who last st spot → spot_reached c spot p ≡ false
      → IsFinished c st → (rooms_left c who spot p ≡ None) × (step_left c spot p ≡ None)
  never st (Waiting k held (t ∷ later)) holds unreached finished = grind (arith, length-count c t.node)
  never st (Within k t at held later) holds unreached finished = grind (arith, In, rooms_left, Within k t at held later, step_left, length-count, between-none)
  never st _ holds unreached finished = (refl, refl)

  -- THE ROOMS at the moment that reaches p are those by which the turns judge it
  pub agrees : (steps : List Step) (st : State) (spot : Spot) → Holds c who last st spot → RunsOn c st steps → Synced c st → Settled c who last (rooms_left c who spot p)
      → HasRooms who (judged c who.pid p st steps) (rooms_left c who spot p)
  agrees [] st spot holds finished synced settled =
      let same = reached-spot c who last p st spot holds synced settled in
      cond_both (is_reached who.pid p st) (Some st) None (λ o. HasRooms who (option_map (λ s. session_of s who.pid) o) (rooms_left c who spot p))
      (λ e. now st spot holds (sym same ∙ e))
      (λ e. subst (HasRooms who None) (sym (never st spot holds (sym same ∙ e) finished).0) refl)
  agrees (s ∷ steps) st spot holds runs synced settled =
      let same = reached-spot c who last p st spot holds synced settled in
      let (next, allowed, later) = runs in
      let step = stepped c st next s allowed in
      let went = moves_on c who last st next s steps spot holds step later synced in
      cond_both (is_reached who.pid p st) (Some st) (find (is_reached who.pid p) (states_from c (unwrap_or (after c st s) st) steps)) (λ o. HasRooms who (option_map (λ s. session_of s who.pid) o) (rooms_left c who spot p))
      (λ e. now st spot holds (sym same ∙ e))
      (λ e.
      (let kept = Moves-rooms c who s.log s.index spot went.spot went.moves p (sym same ∙ e) in
      subst (λ o. HasRooms who (judged c who.pid p (unwrap_or o st) steps) (rooms_left c who spot p)) (sym allowed)
      (subst (HasRooms who (judged c who.pid p next steps)) (sym kept)
      (agrees steps next went.spot went.holds later (Synced-step c st next s.log s.index step synced) (subst (Settled c who last) kept settled)))))

  -- a moment of the steps is one later where a step stands in front
  shifted : (s : Step) (steps : List Step) (moment : Option ℕ) (step : Option Step) → FallsAfter steps moment step → FallsAfter (s ∷ steps) (option_map suc moment) step
  shifted s steps moment None falls = ap (option_map suc) falls
  shifted s steps moment (Some step) falls = (suc falls.0, falls.1, ap (option_map suc) falls.2)

  -- where the first state reaches p, the moment is 0
  first-now : (st : State) (steps : List Step) → is_reached who.pid p st ≡ true → first_index (is_reached who.pid p) (states_from c st steps) ≡ Some 0
  first-now st [] e = ap (λ b. cond b (Some 0) None) e
  first-now st (s ∷ steps) e = ap (λ b. cond b (Some 0) (option_map suc (first_index (is_reached who.pid p) (states_from c (unwrap_or (after c st s) st) steps)))) e

  -- THE MOMENT that reaches p falls after the step that the turns tell
  pub falls : (steps : List Step) (st : State) (spot : Spot) → Holds c who last st spot → RunsOn c st steps → Synced c st → Settled c who last (rooms_left c who spot p) → spot_reached c spot p ≡ false
      → FallsAfter steps (first_index (is_reached who.pid p) (states_from c st steps)) (step_left c spot p)
  falls [] st spot holds finished synced settled unreached =
      subst (FallsAfter [] (first_index (is_reached who.pid p) (states_from c st []))) (sym (never st spot holds unreached finished).1)
      (ap (λ b. cond b (Some 0) None) (reached-spot c who last p st spot holds synced settled ∙ unreached))
  falls (s ∷ steps) st spot holds runs synced settled unreached =
      let (next, allowed, later) = runs in
      let step = stepped c st next s allowed in
      let went = moves_on c who last st next s steps spot holds step later synced in
      let settled' = subst (Settled c who last) (Moves-rooms c who s.log s.index spot went.spot went.moves p unreached) settled in
      let synced' = Synced-step c st next s.log s.index step synced in
      let moves = Moves-step c who s.log s.index spot went.spot went.moves p unreached in
      let onward : first_index (is_reached who.pid p) (states_from c st (s ∷ steps)) ≡ option_map suc (first_index (is_reached who.pid p) (states_from c next steps)) =
      ap (λ b. cond b (Some 0) (option_map suc (first_index (is_reached who.pid p) (states_from c (unwrap_or (after c st s) st) steps)))) (reached-spot c who last p st spot holds synced settled ∙ unreached)
      ∙ ap (λ o. option_map suc (first_index (is_reached who.pid p) (states_from c (unwrap_or o st) steps))) allowed in
      subst (λ m. FallsAfter (s ∷ steps) m (step_left c spot p)) (sym onward)
      (elim (cases_Bool (spot_reached c went.spot p)) as (λ _. FallsAfter (s ∷ steps) (option_map suc (first_index (is_reached who.pid p) (states_from c next steps))) (step_left c spot p)) [
        | inl e ↦ subst (FallsAfter (s ∷ steps) (option_map suc (first_index (is_reached who.pid p) (states_from c next steps)))) (sym (moves.0 e))
            (0, refl, ap (option_map suc) (first-now next steps (reached-spot c who last p next went.spot went.holds synced' settled' ∙ e)))
        | inr e ↦ subst (FallsAfter (s ∷ steps) (option_map suc (first_index (is_reached who.pid p) (states_from c next steps)))) (sym (moves.1 e))
            (shifted s steps (first_index (is_reached who.pid p) (states_from c next steps)) (step_left c went.spot p) (falls steps next went.spot went.holds later synced' settled' e))
      ])

-- a first state that passes is the one that is found
find-first : (c : Cluster) (test : State → Bool) (st : State) (steps : List Step) → test st ≡ true → find test (states_from c st steps) ≡ Some st
find-first c test st [] e = ap (λ b. cond b (Some st) None) e
find-first c test st (s ∷ steps) e = ap (λ b. cond b (Some st) (find test (states_from c (unwrap_or (after c st s) st) steps))) e

-- the session's node has this cursor when the session is on a node for the first time
born_from : (c : Cluster) (who : Who) (held : Rooms) (t : Turn) (later : List Turn) (steps : List Step) (st : State) → Out c who st 0 held (t ∷ later) → RunsOn c st steps → Synced c st
    → option_and_then (λ s. node_cursor s (session_of s who.pid)) (find (is_reached who.pid 0) (states_from c st steps)) ≡ Some (cursor_at c.stream (node_log c t.node) (suc t.from))
born_from c who held t later [] st o finished synced = grind (arith, length-count c t.node)
born_from c who held t later (s ∷ steps) st o runs synced =
    let (next, allowed, goes_on) = runs in
    let step = stepped c st next s allowed in
    let synced' = Synced-step c st next s.log s.index step synced in
    let onward : find (is_reached who.pid 0) (states_from c st (s ∷ steps)) ≡ find (is_reached who.pid 0) (states_from c next steps) =
    ap (λ b. cond b (Some st) (find (is_reached who.pid 0) (states_from c (unwrap_or (after c st s) st) steps))) (ap (λ x. is_at_least (node_cursor st x) 0) o.session)
    ∙ ap (λ x. find (is_reached who.pid 0) (states_from c (unwrap_or x st) steps)) allowed in
    ap (option_and_then (λ s. node_cursor s (session_of s who.pid))) onward
    ∙ (elim (moved c st next s.log s.index who.pid step.kind) as (λ _. option_and_then (λ s. node_cursor s (session_of s who.pid)) (find (is_reached who.pid 0) (states_from c next steps)) ≡ Some (cursor_at c.stream (node_log c t.node) (suc t.from))) [
      | inr quiet ↦ born_from c who held t later steps next (out_stays c who st next s.log s.index 0 held (t ∷ later) o step quiet) goes_on synced'
      | inl named ↦
          let (same_log, same_index, here) = begun_at c who st next s.log s.index steps 0 held t later o step goes_on named in
          let reached : is_reached who.pid 0 next ≡ true = reached-here who.pid next 0 s.log 0 who.sid who.nsp held here ∙ le-leb 0 (cursor_of next s.log) (omega arith) in
          ap (option_and_then (λ s. node_cursor s (session_of s who.pid))) (find-first c (is_reached who.pid 0) next steps reached)
          ∙ ap (node_cursor next) here
          ∙ ap Some (synced' s.log ∙ ap (cursor_at c.stream (node_log c s.log)) (step.now ∙ ap suc same_index) ∙ ap (λ n. cursor_at c.stream (node_log c n) (suc t.from)) same_log)
    ])

-- at the start no turn has begun
Unstarted-start : (c : Cluster) (turns : List Turn) → Unstarted (start c) turns
Unstarted-start c [] = tt
Unstarted-start c (t ∷ later) = (let none = taken-start c t.node in omega (arith, none), Unstarted-start c later)

-- at the start the session waits for turn 0
pub at_start : (c : Cluster) (who : Who) (turns : List Turn) → AreTurns c who 0 turns → Out c who (start c) 0 (own_room who.sid) turns
at_start c who turns are =
    record {
      session = ap (λ o. unwrap_or o Absent) (fin.get-empty (slice_cmp nat_cmp) who.pid);
      first = λ _. refl;
      turns = are;
      unstarted = Unstarted-start c turns;
    }

-- WHEN THE SESSION FIRST REACHES p, it has the rooms that the turns give it, if they settle it
pub rooms-turns : (c : Cluster) (run : List Step) (who : Who) (turns : List Turn) → IsRun c run → AreTurns c who 0 turns
    → (p : ℕ) → Settled c who (length turns) (rooms_of_turns c who turns p)
    → HasRooms who (session_at_reach c run who.pid p) (rooms_of_turns c who turns p)
rooms-turns c run who turns is are p settled =
    subst (λ s. HasRooms who s (rooms_of_turns c who turns p)) (sym (first_index-find-map (is_reached who.pid p) (λ s. session_of s who.pid) (states c run)))
    (agrees c who (length turns) p run (start c) (Waiting 0 (own_room who.sid) turns) (omega arith, at_start c who turns are) (RunsOn-run c run is) (Synced-start c) settled)

-- an entry is for the session when it reaches the position where it is for the rooms that the turns give
for_given : (c : Cluster) (run : List Step) (who : Who) (turns : List Turn) → IsRun c run → AreTurns c who 0 turns
    → (p : ℕ) → Settled c who (length turns) (rooms_of_turns c who turns p)
    → is_for_session (entry c.stream p) (session_at_reach c run who.pid p) ≡ is_for_rooms (entry c.stream p) who.nsp (rooms_of_turns c who turns p)
for_given c run who turns is are p settled = grind (arith, rooms-turns c run who turns is are p settled)

-- a position is due in the run where it is due by the turns, if they settle it
pub due_at : (c : Cluster) (run : List Step) (who : Who) (turns : List Turn) → IsRun c run → AreTurns c who 0 turns
    → (p : ℕ) → Settled c who (length turns) (rooms_of_turns c who turns p)
    → is_due c run who.pid p ≡ is_turn_due c.stream who (map (slice_of c) turns) p
due_at c run who [] is are p settled =
    and_right (is_past_birth (birth c run who.pid) p) (is_for_session (entry c.stream p) (session_at_reach c run who.pid p)) (for_given c run who [] is are p settled)
due_at c run who (t ∷ later) is are p settled =
    ap (λ o. is_past_birth o p && is_for_session (entry c.stream p) (session_at_reach c run who.pid p))
    (first_index-find (is_reached who.pid 0) (λ s. node_cursor s (session_of s who.pid)) (states c run)
    ∙ born_from c who (own_room who.sid) t later run (start c) (at_start c who (t ∷ later) are) (RunsOn-run c run is) (Synced-start c))
    ∙ ap (λ b. is_past_first (map (slice_of c) (t ∷ later)) p && b) (for_given c run who (t ∷ later) is are p settled)

-- The moment that reaches a position falls after the step that the turns tell; where they tell none, there is none
pub reach-turns : (c : Cluster) (run : List Step) (who : Who) (turns : List Turn) → IsRun c run → AreTurns c who 0 turns
    → (p : ℕ) → Settled c who (length turns) (rooms_of_turns c who turns p)
    → FallsAfter run (reach c run who.pid p) (reaching_step c turns p)
reach-turns c run who turns is are p settled =
    falls c who (length turns) p run (start c) (Waiting 0 (own_room who.sid) turns) (omega arith, at_start c who turns are) (RunsOn-run c run is) (Synced-start c) settled refl

-- positions that are shown have their rooms from the turns
pub shown-settled : (c : Cluster) (who : Who) (turns : List Turn) (p : ℕ) → 0 < p → p ≤ greatest_high (map (slice_of c) turns) → Settled c who (length turns) (rooms_of_turns c who turns p)
shown-settled c who turns p some h = inl (rooms_for-up_to c.stream who.pid p (own_room who.sid) (map (slice_of c) turns) some h)

-- a chain has no turn after its last
pub chain-none : (c : Cluster) (who : Who) (turns : List Turn) → IsChain c who turns → HasNoTurn c who.pid (length turns)
chain-none c who turns is node number rec at begins =
    let s = stands c who 0 turns node number is.are_turns (is.covers node number rec at (begins-names who.pid (length turns) rec begins)) in
    let (same, first) = begins_there c who turns node number (length turns) rec is.are_turns at begins s in
    let there = slice_get_within turns s.index s.turn s.is_there in
    absurd (omega (arith, same, there))

-- WHERE THE TURNS ARE ALL, what is due in the run is what is due by them
pub due-chain : (c : Cluster) (run : List Step) (who : Who) (turns : List Turn) → IsRun c run → IsChain c who turns → due c run who.pid ≡ turns_due c.stream who (map (slice_of c) turns)
due-chain c run who turns is chain = filter_agree _ _ (λ p. due_at c run who turns is chain.are_turns p (inr (chain-none c who turns chain))) (positions_after 0 (length c.stream))

-- OF TURNS THAT ARE SHOWN, whether or not there are more: up to the greatest shown high, what is due by them is what is
-- due
none_first : (slices : List Slice) → is_past_first slices 0 ≡ false
none_first [] = refl
none_first (slice ∷ later) = lt_false slice.low 0 (omega arith)

-- nor is it past a birth
none_born : (birth : Option ℕ) → is_past_birth birth 0 ≡ false
none_born None = refl
none_born (Some low) = lt_false low 0 (omega arith)

-- a position is due by the turns where it is due in the run and they reach it
due-shown_at : (c : Cluster) (run : List Step) (who : Who) (turns : List Turn) → IsRun c run → AreTurns c who 0 turns
    → (p : ℕ) → is_turn_due c.stream who (map (slice_of c) turns) p ≡ (is_due c run who.pid p && nat_le p (greatest_high (map (slice_of c) turns)))
due-shown_at c run who turns is are zero = and_left _ _ (none_first (map (slice_of c) turns)) ∙ sym (and_left _ _ (and_left _ _ (none_born (birth c run who.pid))))
due-shown_at c run who turns is are (suc p) = elim (cases_lt (greatest_high (map (slice_of c) turns)) (suc p)) as (λ _. is_turn_due c.stream who (map (slice_of c) turns) (suc p) ≡ (is_due c run who.pid (suc p) && nat_le (suc p) (greatest_high (map (slice_of c) turns)))) [
  | inl past ↦
      and_right (is_past_first (map (slice_of c) turns) (suc p)) _ (ap (is_for_rooms (entry c.stream (suc p)) who.nsp) (rooms_for-past c.stream who.pid (suc p) (own_room who.sid) (map (slice_of c) turns) past))
      ∙ sym (and_right (is_due c run who.pid (suc p)) _ (lt-leb (suc p) _ past))
  | inr within ↦
      sym (due_at c run who turns is are (suc p) (shown-settled c who turns (suc p) (omega arith) within))
      ∙ sym (ap (λ b. is_due c run who.pid (suc p) && b) (le-leb (suc p) _ within) ∙ and_true (is_due c run who.pid (suc p)))
]

-- two filters are one
filter_both : (p q : ℕ → Bool) (xs : List ℕ) → filter p (filter q xs) ≡ filter (λ x. q x && p x) xs
filter_both p q [] = refl
filter_both p q (x ∷ xs) = grind (arith, filter_both p q xs)

-- so what is due by them is what is due up to there
pub due-shown : (c : Cluster) (run : List Step) (who : Who) (turns : List Turn) → IsRun c run → AreTurns c who 0 turns
    → turns_due c.stream who (map (slice_of c) turns) ≡ filter (λ p. nat_le p (greatest_high (map (slice_of c) turns))) (due c run who.pid)
due-shown c run who turns is are =
    filter_agree _ _ (due-shown_at c run who turns is are) (positions_after 0 (length c.stream)) ∙ sym (filter_both _ (is_due c run who.pid) (positions_after 0 (length c.stream)))

-- of ascending positions past h none is kept
none_kept : (h : ℕ) (test : ℕ → Bool) (n a : ℕ) → h ≤ a → filter (λ p. nat_le p h) (filter test (positions_after a n)) ≡ []
none_kept h test zero a past = refl
none_kept h test (suc n) a past = grind (arith, none_kept h test n (suc a), lt-leb (suc a) h)

-- what is kept of ascending positions up to h stands at their front
front : (h : ℕ) (test : ℕ → Bool) (n a : ℕ) → IsPrefixOf (filter (λ p. nat_le p h) (filter test (positions_after a n))) (filter test (positions_after a n))
front h test zero a = ([], refl)
front h test (suc n) a = go (cases_lt h (suc a)) (test (suc a)) (front h test n (suc a))
  where
    rest : List ℕ
    rest = filter test (positions_after (suc a) n)

    go : (h < suc a) ⊎ (suc a ≤ h) → (b : Bool) → IsPrefixOf (filter (λ p. nat_le p h) rest) rest → IsPrefixOf (filter (λ p. nat_le p h) (cond b (suc a ∷ rest) rest)) (cond b (suc a ∷ rest) rest)
    go where_at false ih = ih
    go (inl past) true ih =
        (suc a ∷ rest, ap (λ b. cond b (suc a ∷ filter (λ p. nat_le p h) rest) (filter (λ p. nat_le p h) rest) ++ suc a ∷ rest) (lt-leb (suc a) h past) ∙ ap (λ xs. xs ++ suc a ∷ rest) (none_kept h test n (suc a) (omega (arith, past))))
    go (inr within) true ih =
        (ih.0, ap (λ b. cond b (suc a ∷ filter (λ p. nat_le p h) rest) (filter (λ p. nat_le p h) rest) ++ ih.0) (le-leb (suc a) h within) ∙ ap (λ xs. suc a ∷ xs) ih.1)

-- so what is due by them stands at the front of what is due
pub due-front : (c : Cluster) (run : List Step) (who : Who) (turns : List Turn) → IsRun c run → AreTurns c who 0 turns
    → IsPrefixOf (turns_due c.stream who (map (slice_of c) turns)) (due c run who.pid)
due-front c run who turns is are = subst (λ xs. IsPrefixOf xs (due c run who.pid)) (sym (due-shown c run who turns is are)) (front (greatest_high (map (slice_of c) turns)) (is_due c run who.pid) (length c.stream) 0)
