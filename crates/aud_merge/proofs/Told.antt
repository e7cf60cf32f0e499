-- The state of a session after a prefix of a run is the one that the taken records of its turns give.
use Rattle.std.proofs.lemmas.Bool.Decides.{nat_tests}
use Rattle.std.proofs.Common.{◌≡◌, ◌<◌, ◌≤◌, ℕ, zero, suc, min, cond, List, [], ◌∷◌, ◌++◌, length, Some, slice_get, refl, sym, ap, subst, ◌∙◌, arith, unwrap_or}
use Rattle.std.proofs.lemmas.Bool.{lt-leb}
use Rattle.std.proofs.lemmas.Option.{same_Some, none-some}
use Rattle.aud_tap.specs.declared.records.NodeRec.{NodeRec}
use Rattle.aud_base.proofs.Lists.{between-none}
use Rattle.aud_node.specs.Cluster.{Cluster, node_log}
use Rattle.aud_node.specs.Lists.{between}
use Rattle.aud_node.specs.Stream.{Text}
use Rattle.aud_node.proofs.RecordLemmas.{between-push}
use Rattle.aud_rooms.specs.Rooms.{Rooms, own_room}
use Rattle.aud_rooms.specs.Turns.{Who, Turn, beginning, Last, End, ByBreak, part_of, HasNoTurn, IsChain}
use Rattle.aud_merge.specs.ByTurns.{session_past, after_records, by_turns}
use Rattle.aud_merge.specs.Due.{states_from, states}
use Rattle.aud_merge.specs.declared.step.Step.{Step}
use Rattle.aud_merge.specs.Machine.{State, start, after, session_of, taken_of}
use Rattle.aud_merge.specs.Runs.{IsRun}
use Rattle.aud_merge.specs.Private.RunsOn.{RunsOn}
use Rattle.aud_merge.specs.Sessions.{SessionState, Absent, Here, Ended}
use Rattle.aud_merge.proofs.Steps.{Stepped, stepped, taken-grows, Synced, Synced-step, Synced-start, RunsOn-run}
use Rattle.aud_merge.proofs.Records.{waiting, ended, past-inner, past-last, past-beginning}
use Rattle.aud_merge.proofs.Phases.{Unstarted, Spot, Waiting, Within, Over, Beyond, Holds, OnSlice, Moves, begins, goes, breaks, leaves, passes, stays_beyond, moves_on}
use Rattle.aud_merge.proofs.DueLaws.{at_start, chain-none}

-- records and then one more: the last is applied to what the others made
after_records-push : (node : ℕ) (pid : Text) (s : SessionState) (xs : List NodeRec) (rec : NodeRec) → after_records node pid s (xs ++ rec ∷ []) ≡ session_past node pid (after_records node pid s xs) rec
after_records-push node pid s [] rec = refl
after_records-push node pid s (x ∷ xs) rec = after_records-push node pid (session_past node pid s x) xs rec

-- past one more record of a turn
one_more : (c : Cluster) (pid : Text) (t : Turn) (at : ℕ) (rec : NodeRec) (base session : SessionState) → t.from ≤ at → slice_get (node_log c t.node) at ≡ Some rec
    → after_records t.node pid base (between (node_log c t.node) t.from at) ≡ session
    → after_records t.node pid base (between (node_log c t.node) t.from (suc at)) ≡ session_past t.node pid session rec
one_more c pid t at rec base session some stands is =
    ap (after_records t.node pid base) (between-push (node_log c t.node) t.from at rec some stands)
    ∙ after_records-push t.node pid base (between (node_log c t.node) t.from at) rec
    ∙ ap (λ s. session_past t.node pid s rec) is

-- a turn whose records were all taken, and turns of which none was
by_turns-whole : (c : Cluster) (pid : Text) (st : State) (s : SessionState) (t : Turn) (later : List Turn) → t.from < t.to → t.to ≤ taken_of st t.node
    → by_turns c pid st s (t ∷ later) ≡ by_turns c pid st (after_records t.node pid s (between (node_log c t.node) t.from t.to)) later
by_turns-whole c pid st s t later some taken = grind (arith, nat_tests)

-- turns of which nothing was taken leave the session as it is
by_turns-unstarted : (c : Cluster) (pid : Text) (st : State) (s : SessionState) (rest : List Turn) → Unstarted st rest → by_turns c pid st s rest ≡ s
by_turns-unstarted c pid st s [] none = refl
by_turns-unstarted c pid st s (t ∷ rest) none = grind (arith, nat_tests)

-- the turns that aren't over: the one that the session is in, and the later ones
abbrev ahead : Spot → List Turn
ahead (Waiting k held rest) = rest
ahead (Within k t at held later) = t ∷ later
ahead Over = []
ahead Beyond = []

-- the session before the turns ahead, and what their taken records make of it
abbrev BaseAt : Cluster → Who → Spot → SessionState → Type 0
BaseAt c who (Waiting k held rest) base = base ≡ waiting who k held
BaseAt c who (Within k t at held later) base = (t.from < t.to) × (after_records t.node who.pid base (between (node_log c t.node) t.from at) ≡ Here t.node k who.sid who.nsp held)
BaseAt c who Over base = base ≡ Ended
BaseAt c who Beyond base = ⊥

-- from now on the turns give what those ahead make of this session
record Kept (c : Cluster) (who : Who) (turns : List Turn) (st : State) (spot : Spot) : Type 0 where
  base : SessionState
  same : (u : State) → ((m : ℕ) → taken_of st m ≤ taken_of u m) → by_turns c who.pid u Absent turns ≡ by_turns c who.pid u base (ahead spot)
  at : BaseAt c who spot base

module _ (c : Cluster) (who : Who) (last : ℕ) (turns : List Turn) (none : HasNoTurn c who.pid last) where
  module _ (st st' : State) (l i : ℕ) (s : Stepped c st st' l i) where
    -- what comes after the step comes after the state before it
    grows : (u : State) → ((m : ℕ) → taken_of st' m ≤ taken_of u m) → (m : ℕ) → taken_of st m ≤ taken_of u m
    grows u more m = let step = taken-grows c st st' l i m s in omega (arith, step, more m)

    -- the turn is over with this record
    turn_kept : (k : ℕ) (t : Turn) (at : ℕ) (held : Rooms) (later : List Turn) (rec : NodeRec) (e : End) → OnSlice c t l i at rec → part_of who.pid k rec ≡ Last e → suc at ≡ t.to → t.from < at
        → (kept : Kept c who turns st (Within k t at held later)) → (base : SessionState) × (base ≡ ended e k who.sid who.nsp held)
        × ((u : State) → ((m : ℕ) → taken_of st' m ≤ taken_of u m) → by_turns c who.pid u Absent turns ≡ by_turns c who.pid u base later)
    turn_kept k t at held later rec e on part is_end begun kept = (
      after_records t.node who.pid kept.base (between (node_log c t.node) t.from t.to),
      ap (λ n. after_records t.node who.pid kept.base (between (node_log c t.node) t.from n)) (sym is_end)
          ∙ one_more c who.pid t at rec kept.base _ (omega arith) on.stands kept.at.1
          ∙ past-last t.node who.pid k who.sid who.nsp held rec e part,
      λ u more.
          (let now : taken_of st' t.node ≡ suc i = ap (taken_of st') on.log ∙ s.now in
          let index = on.index in
          kept.same u (grows u more) ∙ by_turns-whole c who.pid u kept.base t later kept.at.0 (omega (arith, now, index, is_end, more t.node))),
    )

    -- a move keeps it
    Moves-kept : (a b : Spot) → Moves c who l i a b → Holds c who last st a → Holds c who last st' b → Kept c who turns st a → Kept c who turns st' b
    Moves-kept a b (begins k held t later same_log same_index turn) before after kept =
        record {
          base = kept.base;
          same = λ u more. kept.same u (grows u more);
          at = (
            turn.some,
            one_more c who.pid t t.from (beginning who k) kept.base _ (omega arith) turn.begins (ap (after_records t.node who.pid kept.base) (between-none (node_log c t.node) t.from t.from (omega arith)) ∙ kept.at)
                ∙ past-beginning t.node who k held before.1.first,
          );
        }
    Moves-kept a b (goes k t at held later rec on part) before after kept =
        let begun = before.1.rest.begun in
        record {
          base = kept.base;
          same = λ u more. kept.same u (grows u more);
          at = (kept.at.0, one_more c who.pid t at rec kept.base _ (omega (arith, begun)) on.stands kept.at.1 ∙ past-inner t.node who.pid k who.sid who.nsp held rec part);
        }
    Moves-kept a b (breaks k t at held later rec on part is_end) before after kept =
        let (base, is, same) = turn_kept k t at held later rec ByBreak on part is_end before.1.rest.begun kept in
        record { base = base; same = same; at = is }
    Moves-kept a b (leaves k t at held later rec e on part is_end no_more over) before after kept =
        let (base, is, same) = turn_kept k t at held later rec e on part is_end before.1.rest.begun kept in
        record { base = base; same = λ u more. same u more ∙ ap (by_turns c who.pid u base) no_more; at = is ∙ over }
    Moves-kept a b (passes k held) before after kept = absurd (none after.node after.at after.rec after.stands after.begins)
    Moves-kept a b stays_beyond before after kept = absurd kept.at
    Moves-kept a b _ before after kept = record { base = kept.base; same = λ u more. kept.same u (grows u more); at = kept.at }

  -- in a state of a run the session is as the taken records of its turns make it
  told : (st : State) (spot : Spot) → Holds c who last st spot → Kept c who turns st spot → session_of st who.pid ≡ by_turns c who.pid st Absent turns
  told st spot holds kept = ahead_told spot holds kept.base kept.at ∙ sym (kept.same st (λ m. omega arith))
    where
      ahead_told : (spot : Spot) → Holds c who last st spot → (base : SessionState) → BaseAt c who spot base → session_of st who.pid ≡ by_turns c who.pid st base (ahead spot)
      ahead_told (Waiting k held rest) holds base at = holds.1.session ∙ sym at ∙ sym (by_turns-unstarted c who.pid st base rest holds.1.unstarted)
      ahead_told (Within k t at held later) holds base here =
          let taken = holds.1.taken in
          let rest = holds.1.rest in
          let upto : min (taken_of st t.node) t.to ≡ at = omega (arith, taken, rest.within) in
          holds.1.session ∙ sym here.1
          ∙ ap (λ n. after_records t.node who.pid base (between (node_log c t.node) t.from n)) (sym upto)
          ∙ sym (by_turns-unstarted c who.pid st _ later holds.1.unstarted)
          ∙ ap (λ b. cond b base (by_turns c who.pid st (after_records t.node who.pid base (between (node_log c t.node) t.from (min (taken_of st t.node) t.to))) later)) (sym (lt-leb (taken_of st t.node) t.from (omega (arith, taken, rest.begun))))
      ahead_told Over holds base at = holds ∙ sym at
      ahead_told Beyond holds base at = absurd at

  -- so in each later state, step after step
  told_along : (steps : List Step) (st : State) (spot : Spot) → Holds c who last st spot → RunsOn c st steps → Synced c st → Kept c who turns st spot
      → (t : ℕ) (then : State) → slice_get (states_from c st steps) t ≡ Some then → session_of then who.pid ≡ by_turns c who.pid then Absent turns
  told_along [] st spot holds runs synced kept zero then at = subst (λ s. session_of s who.pid ≡ by_turns c who.pid s Absent turns) (same_Some st then at) (told st spot holds kept)
  told_along [] st spot holds runs synced kept (suc t) then at = absurd (none-some then at)
  told_along (s ∷ steps) st spot holds runs synced kept zero then at = subst (λ s. session_of s who.pid ≡ by_turns c who.pid s Absent turns) (same_Some st then at) (told st spot holds kept)
  told_along (s ∷ steps) st spot holds runs synced kept (suc t) then at =
      let (next, allowed, later) = runs in
      let step = stepped c st next s allowed in
      let went = moves_on c who last st next s steps spot holds step later synced in
      told_along steps next went.spot went.holds later (Synced-step c st next s.log s.index step synced) (Moves-kept st next s.log s.index step spot went.spot went.moves holds went.holds kept)
      t then (ap (λ o. slice_get (states_from c (unwrap_or o st) steps) t) (sym allowed) ∙ at)

-- AFTER EACH PREFIX of a run
pub session_turns : (c : Cluster) (run : List Step) (who : Who) (turns : List Turn) → IsRun c run → IsChain c who turns
    → (t : ℕ) (then : State) → slice_get (states c run) t ≡ Some then → session_of then who.pid ≡ by_turns c who.pid then Absent turns
session_turns c run who turns is chain =
    told_along c who (length turns) turns (chain-none c who turns chain) run (start c) (Waiting 0 (own_room who.sid) turns) (omega arith, at_start c who turns chain.are_turns) (RunsOn-run c run is) (Synced-start c)
    (record { base = Absent; same = λ u _. refl; at = refl })
