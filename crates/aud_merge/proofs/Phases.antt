-- Where a session is among its turns, in a state of a run; and how each step leads on.
use Rattle.std.proofs.Common.{◌≡◌, ◌<◌, ◌≤◌, ◌+◌, ℕ, suc, true, List, [], ◌∷◌, length, Some, slice_get, refl, sym, ap, subst, ◌∙◌, ◌⊎◌, inl, inr, nat_le, arith}
use Rattle.std.proofs.lemmas.Bool.{cases_eq}
use Rattle.std.proofs.lemmas.Option.{same_Some, slice_get_within}
use Rattle.aud_tap.specs.declared.records.NodeRec.{NodeRec}
use Rattle.aud_base.proofs.Lists.{between-more, between-none}
use Rattle.aud_node.specs.Cluster.{Cluster, node_log}
use Rattle.aud_node.specs.Cursors.{later_cursor, cursor_at}
use Rattle.aud_node.specs.Lists.{between}
use Rattle.aud_node.specs.Stream.{Text}
use Rattle.aud_node.specs.TurnRecords.{begins_turn}
use Rattle.aud_node.proofs.RecordLemmas.{between-nil}
use Rattle.aud_rooms.specs.Rooms.{Rooms, own_room, rooms_after}
use Rattle.aud_rooms.specs.Turns.{Who, Turn, beginning, Inner, Last, End, ByBreak, ByGone, ByLog, part_of, turn_end, MayEnd, IsTurn, AreTurns}
use Rattle.aud_rooms.proofs.Turns.{end_parts, begins-same, beginning-begins, begins-names}
use Rattle.aud_merge.specs.ByTurns.{session_past}
use Rattle.aud_merge.specs.Due.{cursor_of, node_cursor, is_at_least, is_reached}
use Rattle.aud_merge.specs.declared.step.Step.{Step}
use Rattle.aud_merge.specs.Machine.{State, session_of, taken_in, taken_of}
use Rattle.aud_merge.specs.Runs.{record_count}
use Rattle.aud_merge.specs.Private.RunsOn.{RunsOn}
use Rattle.aud_merge.specs.Sessions.{Here, Ended, session_after}
use Rattle.aud_merge.proofs.Steps.{EntryStep, RecordStep, Stepped, stepped, Named, Quiet, moved, Synced, Synced-step, cursor-moves}
use Rattle.aud_merge.proofs.Records.{IsBeyond, IsBeyond-after, beginning-allowed, here-node, beginning-here, ended-after, past-named, past-other, past-inner, past-last, ended, waiting, waiting-after, begins-beyond}

-- a node's log has no more records than steps
pub length-count : (c : Cluster) (l : ℕ) → length (node_log c l) ≤ record_count c l
length-count c l = grind arith

-- a turn that was begun is not begun again, so no such record is left
pub never_again : (c : Cluster) (pid : Text) (k l i : ℕ) (rec : NodeRec) → slice_get (node_log c l) i ≡ Some rec → begins_turn pid k rec ≡ true
    → (steps : List Step) (st : State) → RunsOn c st steps → IsBeyond k (session_of st pid) → taken_of st l ≤ i → ⊥
never_again c pid k l i rec at begins [] st finished beyond left =
    omega (arith, slice_get_within (node_log c l) i rec at, length-count c l, finished l, left)
never_again c pid k l i rec at begins (s ∷ steps) st runs beyond left =
    let (next, allowed, later) = runs in
    let st_ = stepped c st next s allowed in
    let (beyond', left') = go next st_ (moved c st next s.log s.index pid st_.kind) in
    never_again c pid k l i rec at begins steps next later beyond' left'
  where
    still : (next : State) (m : Stepped c st next s.log s.index) → (s.log ≡ l → s.index ≡ i → ⊥) → taken_of next l ≤ i
    still next m n = grind arith

    go : (next : State) (m : Stepped c st next s.log s.index) → Named c st next s.log s.index pid ⊎ Quiet c st next s.log s.index pid → IsBeyond k (session_of next pid) × (taken_of next l ≤ i)
    go next m (inl named) = (
      IsBeyond-after s.log k named.rec (session_of st pid) (session_of next pid) named.becomes beyond,
      still next m (λ same_log same_index.
          let is : named.rec ≡ rec = same_Some _ _ (sym named.at ∙ ap (λ n. slice_get (node_log c n) s.index) same_log ∙ ap (slice_get (node_log c l)) same_index ∙ at) in
          beginning-allowed s.log pid k named.rec (session_of st pid) (session_of next pid) (ap (begins_turn pid k) is ∙ begins) named.becomes beyond),
    )
    go next m (inr quiet) = (
      subst (IsBeyond k) (sym quiet.session) beyond,
      still next m (λ same_log same_index. quiet.other rec (ap (λ n. slice_get (node_log c n) s.index) same_log ∙ ap (slice_get (node_log c l)) same_index ∙ at) (begins-names pid k rec begins)),
    )

-- no record of these turns was taken
abbrev pub Unstarted : State → List Turn → Type 0
Unstarted st [] = Unit {0}
Unstarted st (t ∷ later) = (taken_of st t.node ≤ t.from) × Unstarted st later

-- the session waits for turn k
pub record Out (c : Cluster) (who : Who) (st : State) (k : ℕ) (held : Rooms) (rest : List Turn) : Type 0 where
  pub session : session_of st who.pid ≡ waiting who k held
  pub first : k ≡ 0 → held ≡ own_room who.sid
  pub turns : AreTurns c who k rest
  pub unstarted : Unstarted st rest

-- the records of turn k from this number on, and the turns after it
pub record Rest (c : Cluster) (who : Who) (k : ℕ) (t : Turn) (i : ℕ) (later : List Turn) : Type 0 where
  pub begun : t.from < i
  pub within : i ≤ t.to
  pub in_log : t.to ≤ length (node_log c t.node)
  pub end : End
  pub ends : turn_end who.pid k (between (node_log c t.node) i t.to) ≡ Some end
  pub may_end : MayEnd c t later end
  pub turns : AreTurns c who (suc k) later

-- the session is in turn k, and the next record of its node has this number
pub record In (c : Cluster) (who : Who) (st : State) (k : ℕ) (t : Turn) (i : ℕ) (held : Rooms) (later : List Turn) : Type 0 where
  pub session : session_of st who.pid ≡ Here t.node k who.sid who.nsp held
  pub taken : taken_of st t.node ≡ i
  pub rest : Rest c who k t i later
  pub unstarted : Unstarted st later

-- where the session is among its turns
pub data Spot : Type 0 where
  -- it waits for turn k, with these rooms
  Waiting : (k : ℕ) (held : Rooms) (rest : List Turn) → Spot
  -- it is in turn k, at the record with this number
  Within : (k : ℕ) (t : Turn) (at : ℕ) (held : Rooms) (later : List Turn) → Spot
  Over : Spot
  -- there is a turn after those that are known
  Beyond : Spot

-- some log has a record that begins turn k of the session
pub record HasTurn (c : Cluster) (pid : Text) (k : ℕ) : Type 0 where
  pub node : ℕ
  pub at : ℕ
  pub rec : NodeRec
  pub stands : slice_get (node_log c node) at ≡ Some rec
  pub begins : begins_turn pid k rec ≡ true

-- the session is there, of `last` turns that are known
abbrev pub Holds : Cluster → Who → ℕ → State → Spot → Type 0
Holds c who last st (Waiting k held rest) = (k + length rest ≡ last) × Out c who st k held rest
Holds c who last st (Within k t at held later) = (suc k + length later ≡ last) × In c who st k t at held later
Holds c who last st Over = session_of st who.pid ≡ Ended
Holds c who last st Beyond = HasTurn c who.pid last

-- a record of the turn's node, at its place
pub record OnSlice (c : Cluster) (t : Turn) (l i at : ℕ) (rec : NodeRec) : Type 0 where
  pub log : t.node ≡ l
  pub index : i ≡ at
  pub stands : slice_get (node_log c t.node) at ≡ Some rec
  pub some : at < t.to
  pub moves : cursor_at c.stream (node_log c t.node) (suc at) ≡ later_cursor c.stream rec (cursor_at c.stream (node_log c t.node) at)

-- how the step of record i of log l moves the session
pub data Moves (c : Cluster) (who : Who) (l i : ℕ) : Spot → Spot → Type 0 where
  waits : (k : ℕ) (held : Rooms) (rest : List Turn) → Moves c who l i (Waiting k held rest) (Waiting k held rest)
  begins : (k : ℕ) (held : Rooms) (t : Turn) (later : List Turn) → l ≡ t.node → i ≡ t.from → IsTurn c who k t later
      → Moves c who l i (Waiting k held (t ∷ later)) (Within k t (suc t.from) held later)
  elsewhere : (k : ℕ) (t : Turn) (at : ℕ) (held : Rooms) (later : List Turn) → Moves c who l i (Within k t at held later) (Within k t at held later)
  goes : (k : ℕ) (t : Turn) (at : ℕ) (held : Rooms) (later : List Turn) (rec : NodeRec) → OnSlice c t l i at rec → part_of who.pid k rec ≡ Inner
      → Moves c who l i (Within k t at held later) (Within k t (suc at) (rooms_after who.pid held rec) later)
  breaks : (k : ℕ) (t : Turn) (at : ℕ) (held : Rooms) (later : List Turn) (rec : NodeRec) → OnSlice c t l i at rec → part_of who.pid k rec ≡ Last ByBreak → suc at ≡ t.to
      → Moves c who l i (Within k t at held later) (Waiting (suc k) held later)
  leaves : (k : ℕ) (t : Turn) (at : ℕ) (held : Rooms) (later : List Turn) (rec : NodeRec) (e : End) → OnSlice c t l i at rec → part_of who.pid k rec ≡ Last e → suc at ≡ t.to → later ≡ [] → (ended e k who.sid who.nsp held ≡ Ended)
      → Moves c who l i (Within k t at held later) Over
  stays_over : Moves c who l i Over Over
  passes : (k : ℕ) (held : Rooms) → Moves c who l i (Waiting k held []) Beyond
  stays_beyond : Moves c who l i Beyond Beyond

-- a step that begins none of these turns starts none
pub Unstarted-step : (c : Cluster) (who : Who) (st st' : State) (l i : ℕ) → Stepped c st st' l i
    → (k : ℕ) (later : List Turn) → ((n : ℕ) → k ≤ n → slice_get (node_log c l) i ≡ Some (beginning who n) → ⊥) → AreTurns c who k later → Unstarted st later → Unstarted st' later
Unstarted-step c who st st' l i s k [] none turns unstarted = tt
Unstarted-step c who st st' l i s k (t ∷ later) none turns unstarted = grind (arith, Unstarted-step c who st st' l i s (suc k) later)

-- the spot after the step, and how it came there
pub record Went (c : Cluster) (who : Who) (last : ℕ) (st' : State) (l i : ℕ) (before : Spot) : Type 0 where
  pub spot : Spot
  pub moves : Moves c who l i before spot
  pub holds : Holds c who last st' spot

-- a session that is over stays over
over_step : (c : Cluster) (who : Who) (last : ℕ) (st st' : State) (l i : ℕ) → (e : session_of st who.pid ≡ Ended)
    → Named c st st' l i who.pid ⊎ Quiet c st st' l i who.pid → Went c who last st' l i Over
over_step c who last st st' l i e (inl named) = absurd (ended-after l named.rec (session_of st' who.pid) (ap (session_after l named.rec) (sym e) ∙ named.becomes))
over_step c who last st st' l i e (inr quiet) = record { spot = Over; moves = stays_over; holds = quiet.session ∙ e }

-- a step that doesn't name the session begins none of its turns
quiet-none : (c : Cluster) (who : Who) (st st' : State) (l i : ℕ) → Quiet c st st' l i who.pid → (n : ℕ) → slice_get (node_log c l) i ≡ Some (beginning who n) → ⊥
quiet-none c who st st' l i quiet n at = quiet.other (beginning who n) at (begins-names who.pid n (beginning who n) (beginning-begins who n))

-- a session that waits for turn k is named only by that turn's first record
pub begun_at : (c : Cluster) (who : Who) (st st' : State) (l i : ℕ) (steps : List Step) (k : ℕ) (held : Rooms) (t : Turn) (later : List Turn) → Out c who st k held (t ∷ later)
    → Stepped c st st' l i → RunsOn c st' steps → Named c st st' l i who.pid → (l ≡ t.node) × (i ≡ t.from) × (session_of st' who.pid ≡ Here l k who.sid who.nsp held)
begun_at c who st st' l i steps k held t later o s runs named = grind (arith, waiting-after l who k held named.rec, never_again c, beginning-begins who k, begins-beyond l who.pid k named.rec)

-- a record that names a waiting session begins its turn, or one that is not known
out_named : (c : Cluster) (who : Who) (last : ℕ) (st st' : State) (l i : ℕ) (steps : List Step) (k : ℕ) (held : Rooms) (rest : List Turn) (counted : k + length rest ≡ last) (o : Out c who st k held rest)
    → Stepped c st st' l i → RunsOn c st' steps → (named : Named c st st' l i who.pid) → begins_turn who.pid k named.rec ≡ true → Went c who last st' l i (Waiting k held rest)
out_named c who last st st' l i steps k held [] counted o s runs named starts =
    let is_last : k ≡ last = omega (arith, counted) in
    record { spot = Beyond; moves = passes k held; holds = record { node = l; at = i; rec = named.rec; stands = named.at; begins = subst (λ n. begins_turn who.pid n named.rec ≡ true) is_last starts } }
out_named c who last st st' l i steps k held (t ∷ later) counted o s runs named starts =
    let (same_log, same_index, here) = begun_at c who st st' l i steps k held t later o s runs named in
    let turn : IsTurn c who k t later = o.turns.0 in
    record {
      spot = Within k t (suc t.from) held later;
      moves = begins k held t later same_log same_index turn;
      holds = (
        omega (arith, counted),
        record {
          session = here ∙ ap (λ n. Here n k who.sid who.nsp held) same_log;
          taken = ap (taken_of st') (sym same_log) ∙ s.now ∙ ap suc same_index;
          rest = record { begun = omega arith; within = turn.some; in_log = turn.within; end = turn.end; ends = turn.ends; may_end = turn.may_end; turns = o.turns.1 };
          unstarted = Unstarted-step c who st st' l i s (suc k) later (λ n h at'. (let same : k ≡ n = begins-same who k n (ap (begins_turn who.pid k) (same_Some _ _ (sym at' ∙ named.at)) ∙ starts) in omega (arith, same, h))) o.turns.1 o.unstarted.1;
        },
      );
    }

-- a session that the record doesn't name goes on waiting
pub out_stays : (c : Cluster) (who : Who) (st st' : State) (l i : ℕ) (k : ℕ) (held : Rooms) (rest : List Turn) → Out c who st k held rest
    → Stepped c st st' l i → Quiet c st st' l i who.pid → Out c who st' k held rest
out_stays c who st st' l i k held rest o s quiet =
    record {
      session = quiet.session ∙ o.session;
      first = o.first;
      turns = o.turns;
      unstarted = Unstarted-step c who st st' l i s k rest (λ n _. quiet-none c who st st' l i quiet n) o.turns o.unstarted;
    }

-- a session on a node is reached where that node's cursor is
pub reached-here : (pid : Text) (st : State) (p at k : ℕ) (sid nsp : Text) (held : Rooms) → session_of st pid ≡ Here at k sid nsp held → is_reached pid p st ≡ nat_le p (cursor_of st at)
reached-here pid st p at k sid nsp held e = ap (λ s. is_at_least (node_cursor st s) p) e

-- within a turn, a position is reached where the cursor at the next record is
pub reached-in : (c : Cluster) (who : Who) (st : State) (k : ℕ) (t : Turn) (i : ℕ) (held : Rooms) (later : List Turn) → In c who st k t i held later → Synced c st
    → (p : ℕ) → is_reached who.pid p st ≡ nat_le p (cursor_at c.stream (node_log c t.node) i)
reached-in c who st k t i held later o synced p = grind (arith, reached-here who.pid st p t.node k who.sid who.nsp held o.session)

module _ (c : Cluster) (who : Who) (last : ℕ) (st st' : State) (l i' : ℕ) (k : ℕ) (t : Turn) (i : ℕ) (held : Rooms) (later : List Turn) (counted : suc k + length later ≡ last) (o : In c who st k t i held later) where
  -- where neither session nor node moves, the session stays at its record
  stays : (session_of st' who.pid ≡ session_of st who.pid) → taken_of st' t.node ≡ taken_of st t.node → Unstarted st' later → Went c who last st' l i' (Within k t i held later)
  stays session taken unstarted =
      record {
        spot = Within k t i held later;
        moves = elsewhere k t i held later;
        holds = (counted, record { session = session ∙ o.session; taken = taken ∙ o.taken; rest = o.rest; unstarted = unstarted });
      }

  -- the slice isn't at its end while its node has a record left
  more : (rec : NodeRec) → slice_get (node_log c t.node) i ≡ Some rec → i < t.to
  more rec at = grind (arith, between-none (node_log c t.node) i t.to, slice_get_within (node_log c t.node) i rec at)

  -- the record that ends the turn leads to the next turn, or to the end
  ended_step : (rec : NodeRec) → OnSlice c t l i' i rec → suc i ≡ t.to → (e : End) → part_of who.pid k rec ≡ Last e → MayEnd c t later e → session_of st' who.pid ≡ ended e k who.sid who.nsp held → Unstarted st' later
      → Went c who last st' l i' (Within k t i held later)
  ended_step rec on is_end ByBreak part may session unstarted =
      record {
        spot = Waiting (suc k) held later;
        moves = breaks k t i held later rec on part is_end;
        holds = (counted, record { session = session; first = λ e. absurd (omega (arith, e)); turns = o.rest.turns; unstarted = unstarted });
      }
  ended_step rec on is_end ByGone part may session unstarted =
      record { spot = Over; moves = leaves k t i held later rec ByGone on part is_end may refl; holds = session }
  ended_step rec on is_end ByLog part may session unstarted =
      record { spot = Over; moves = leaves k t i held later rec ByLog on part is_end may.0 refl; holds = session }

  -- a record of the node that the session is on
  node_step : (rec : NodeRec) → OnSlice c t l i' i rec → taken_of st' t.node ≡ suc i → Unstarted st' later → session_of st' who.pid ≡ session_past t.node who.pid (Here t.node k who.sid who.nsp held) rec
      → Went c who last st' l i' (Within k t i held later)
  node_step rec on taken unstarted past =
      go (end_parts (part_of who.pid k rec) (between (node_log c t.node) (suc i) t.to) (turn_end who.pid k (between (node_log c t.node) (suc i) t.to)) o.rest.end
      (ap (turn_end who.pid k) (sym (between-more (node_log c t.node) i t.to rec on.some on.stands)) ∙ o.rest.ends))
    where
      go : ((part_of who.pid k rec ≡ Inner) × (turn_end who.pid k (between (node_log c t.node) (suc i) t.to) ≡ Some o.rest.end)) ⊎ ((part_of who.pid k rec ≡ Last o.rest.end) × (between (node_log c t.node) (suc i) t.to ≡ []))
          → Went c who last st' l i' (Within k t i held later)
      go (inl x) =
          let begun = o.rest.begun in
          let left : Rest c who k t (suc i) later = record { begun = omega (arith, begun); within = on.some; in_log = o.rest.in_log; end = o.rest.end; ends = x.1; may_end = o.rest.may_end; turns = o.rest.turns } in
          record {
            spot = Within k t (suc i) (rooms_after who.pid held rec) later;
            moves = goes k t i held later rec on x.0;
            holds = (counted, record { session = past ∙ past-inner t.node who.pid k who.sid who.nsp held rec x.0; taken = taken; rest = left; unstarted = unstarted });
          }
      go (inr x) =
          let past_end = between-nil (node_log c t.node) (suc i) t.to o.rest.in_log x.1 in
          let some = on.some in
          ended_step rec on (omega (arith, past_end, some)) o.rest.end x.0 o.rest.may_end (past ∙ past-last t.node who.pid k who.sid who.nsp held rec o.rest.end x.0) unstarted

-- the record of a step of this node
node_record : (c : Cluster) (st st' : State) (l i : ℕ) → Stepped c st st' l i → 0 < length (node_log c l) → RecordStep c st st' l i
node_record c st st' l i s h = grind (arith, EntryStep c st st' l i, RecordStep c st st' l i)

-- the session past a node's record
past : (c : Cluster) (st st' : State) (l i : ℕ) (pid : Text) (rec : NodeRec) → slice_get (node_log c l) i ≡ Some rec → Named c st st' l i pid ⊎ Quiet c st st' l i pid
    → session_of st' pid ≡ session_past l pid (session_of st pid) rec
past c st st' l i pid rec at moved = grind (arith, past-named l pid rec, past-other l pid rec)

-- within a turn, each step leads on in it, or out of it
inside_step : (c : Cluster) (who : Who) (last : ℕ) (st st' : State) (l i' : ℕ) (k : ℕ) (t : Turn) (i : ℕ) (held : Rooms) (later : List Turn) (counted : suc k + length later ≡ last) (o : In c who st k t i held later)
    → Stepped c st st' l i' → Synced c st → Synced c st' → Named c st st' l i' who.pid ⊎ Quiet c st st' l i' who.pid
    → Went c who last st' l i' (Within k t i held later)
inside_step c who last st st' l i' k t i held later counted o s synced synced' effect = by_node (cases_eq t.node l)
  where
    none_begun : Named c st st' l i' who.pid ⊎ Quiet c st st' l i' who.pid → (n : ℕ) → slice_get (node_log c l) i' ≡ Some (beginning who n) → ⊥
    none_begun (inl named) n at =
        beginning-here l who n t.node k who.sid who.nsp held (session_of st' who.pid)
        (ap (λ rec. session_after l rec (Here t.node k who.sid who.nsp held)) (same_Some _ _ (sym at ∙ named.at)) ∙ ap (session_after l named.rec) (sym o.session) ∙ named.becomes)
    none_begun (inr quiet) n at = quiet-none c who st st' l i' quiet n at

    unstarted : Unstarted st' later
    unstarted = Unstarted-step c who st st' l i' s (suc k) later (λ n _. none_begun effect n) o.rest.turns o.unstarted

    elsewhere : (t.node ≡ l → ⊥) → Named c st st' l i' who.pid ⊎ Quiet c st st' l i' who.pid → Went c who last st' l i' (Within k t i held later)
    elsewhere n (inl named) = absurd (n (here-node l named.rec t.node k who.sid who.nsp held (session_of st' who.pid) (ap (session_after l named.rec) (sym o.session) ∙ named.becomes)))
    elsewhere n (inr quiet) = stays c who last st st' l i' k t i held later counted o quiet.session (ap taken_in (s.others t.node n)) unstarted

    by_node : (t.node ≡ l) ⊎ (t.node ≡ l → ⊥) → Went c who last st' l i' (Within k t i held later)
    by_node (inr n) = elsewhere n effect
    by_node (inl e) =
        let there : Stepped c st st' t.node i' = subst (λ n. Stepped c st st' n i') (sym e) s in
        let index : i' ≡ i = sym there.was ∙ o.taken in
        let here : Stepped c st st' t.node i = subst (Stepped c st st' t.node) index there in
        let rest = o.rest in
        let r : RecordStep c st st' t.node i = node_record c st st' t.node i here (omega (arith, rest.begun, rest.within, rest.in_log)) in
        let on : OnSlice c t l i' i r.rec = record {
          log = e;
          index = index;
          stands = r.at;
          some = more c who last st st' l i' k t i held later counted o r.rec r.at;
          moves = cursor-moves c.stream (node_log c t.node) i r.rec (omega (arith, rest.begun)) r.at;
        } in
        node_step c who last st st' l i' k t i held later counted o r.rec on here.now unstarted
        (past c st st' t.node i who.pid r.rec r.at (moved c st st' t.node i who.pid here.kind) ∙ ap (λ x. session_past t.node who.pid x r.rec) o.session)

-- EACH STEP of a run moves the session from where it is
pub moves_on : (c : Cluster) (who : Who) (last : ℕ) (st st' : State) (s : Step) (steps : List Step) (spot : Spot) → Holds c who last st spot
    → Stepped c st st' s.log s.index → RunsOn c st' steps → Synced c st → Went c who last st' s.log s.index spot
moves_on c who last st st' s steps (Waiting k held rest) holds step runs synced = go (moved c st st' s.log s.index who.pid step.kind)
  where
    go : Named c st st' s.log s.index who.pid ⊎ Quiet c st st' s.log s.index who.pid → Went c who last st' s.log s.index (Waiting k held rest)
    go (inl named) =
        out_named c who last st st' s.log s.index steps k held rest holds.0 holds.1 step runs named
        (waiting-after s.log who k held named.rec (session_of st' who.pid) named.names (ap (session_after s.log named.rec) (sym holds.1.session) ∙ named.becomes))
    go (inr quiet) = record { spot = Waiting k held rest; moves = waits k held rest; holds = (holds.0, out_stays c who st st' s.log s.index k held rest holds.1 step quiet) }
moves_on c who last st st' s steps (Within k t at held later) holds step runs synced =
    inside_step c who last st st' s.log s.index k t at held later holds.0 holds.1 step synced (Synced-step c st st' s.log s.index step synced) (moved c st st' s.log s.index who.pid step.kind)
moves_on c who last st st' s steps Over e step runs synced = over_step c who last st st' s.log s.index e (moved c st st' s.log s.index who.pid step.kind)
moves_on c who last st st' s steps Beyond has step runs synced = record { spot = Beyond; moves = stays_beyond; holds = has }
