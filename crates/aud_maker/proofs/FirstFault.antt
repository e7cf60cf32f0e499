-- Which of the faults holds first, and what is made where none does.
use Rattle.std.proofs.Common.{◌≡◌, ◌<◌, false, true, List, [], ◌∷◌, length, Some, None, sym, ap, subst, ◌∙◌, arith, ℕ, suc, MatchBool, Option, inl, inr}
use Rattle.std.specs.List.{list_all, All}
use Rattle.std.proofs.lemmas.Bool.{false≢true, and_parts}
use Rattle.std.proofs.lemmas.Option.{none-some}
use Rattle.aud_node.specs.Cluster.{Cluster}
use Rattle.aud_node.specs.Stream.{Text}
use Rattle.aud_rooms.specs.Turns.{Who, Turn, IsChain, AreTurns, HasNoTurn}
use Rattle.aud_node.specs.OwnPlaces.{own_places}
use Rattle.aud_maker.specs.Begun.{AreAllBegun, turn_begun}
use Rattle.aud_maker.specs.Ended.{are_ended}
use Rattle.aud_maker.specs.InTurn.{is_swept}
use Rattle.aud_maker.specs.Chain.{HasNoChain}
use Rattle.aud_maker.specs.Opening.{opening_of}
use Rattle.aud_maker.proofs.BegunLemmas.{chain-same, begun, one_chain}
use Rattle.aud_maker.proofs.EndedLemmas.{ended-turns, turns-ended, opening-names}
use Rattle.aud_maker.proofs.SweptLemmas.{swept-covers, covers-swept}
use Rattle.std.specs.Option.{is_some}
use Rattle.std.proofs.lemmas.List.Elements.{All-nil, All-cons, All-contains}
use Rattle.std.proofs.lemmas.List.Sums.{AllPass-from_list_all}
pub use Rattle.aud_base.proofs.Lists.{one_fails}
use Rattle.aud_client.specs.Replies.{naming_places}
use Rattle.aud_rooms.specs.TurnPlaces.{IsInOrder}
use Rattle.aud_cert.specs.declared.fault.Fault.{Fault}
use Rattle.aud_cert.specs.declared.fault.Fault.TheVariants.{NoLog, Chain, Order, Client}
use Rattle.aud_maker.specs.Faults.{HasUnordered, HasMakeFault, make_fault_rank, IsFirstMakeFault, HasNoMakeFault}
use Rattle.aud_maker.specs.Made.{is_turn_ordered}

-- turns that open a session are not none
some_turns : (c : Cluster) (turns : List Turn) (o : Text × Text) → opening_of c turns ≡ Some o → 0 < length turns
some_turns c turns o e = grind arith

module _ (c : Cluster) (pid : Text) (turns : List Turn) (begun : AreAllBegun c pid turns) where
  -- turns that pass all tests are the session's chain
  pub is_chain : (sid nsp : Text) → opening_of c turns ≡ Some (sid, nsp) → are_ended c pid 0 turns ≡ true → list_all (is_swept c turns pid) (own_places c pid) ≡ true
      → IsChain c (record { pid = pid; sid = sid; nsp = nsp }) turns
  is_chain sid nsp opening ended swept =
      record {
        some = some_turns c turns (sid, nsp) opening;
        are_turns = ended-turns c (record { pid = pid; sid = sid; nsp = nsp }) 0 turns begun.begun (λ _. opening) ended;
        covers = swept-covers c pid turns swept;
      }

  -- a chain of the session would be these turns
  these : (who : Who) (other : List Turn) → who.pid ≡ pid → IsChain c who other → IsChain c who turns
  these who other same chain = subst (IsChain c who) (chain-same c who pid turns other same begun chain) chain

  -- where the first turn doesn't open the session there is none
  pub not_opened : opening_of c turns ≡ None → HasNoChain c pid
  not_opened none who other same chain =
      let here = these who other same chain in
      none-some (who.sid, who.nsp) (sym none ∙ opening-names c who turns here.some here.are_turns)

  -- nor where a turn doesn't end as it may
  pub not_ended : are_ended c pid 0 turns ≡ false → HasNoChain c pid
  not_ended fails who other same chain =
      let all : AreAllBegun c who.pid turns = subst (λ p. AreAllBegun c p turns) (sym same) begun in
      false≢true (sym fails ∙ ap (λ p. are_ended c p 0 turns) (sym same) ∙ turns-ended c who 0 turns all.begun (these who other same chain).are_turns)

  -- nor where a record stands outside
  pub not_swept : list_all (is_swept c turns pid) (own_places c pid) ≡ false → HasNoChain c pid
  not_swept fails who other same chain =
      false≢true (sym fails ∙ ap (λ p. list_all (is_swept c turns p) (own_places c p)) (sym same) ∙ covers-swept c who turns (these who other same chain))

-- ---- which of the faults holds first, and what is made where none does

-- there is such a turn exactly where a record begins turn 0
abbrev Says : Cluster → Text → Option Turn → Type 0
Says c pid o = MatchBool (is_some o) (HasNoTurn c pid 0 → ⊥) (HasNoTurn c pid 0)

-- whether the session was opened
pub is_opened : (c : Cluster) (pid : Text) → MatchBool (is_some (turn_begun c (own_places c pid) pid 0)) (HasNoTurn c pid 0 → ⊥) (HasNoTurn c pid 0)
is_opened c pid = elim (begun c pid 0) as (λ _. Says c pid (turn_begun c (own_places c pid) pid 0)) [
  | inl none ↦ subst (Says c pid) (sym none.0) none.1
  | inr found ↦ subst (Says c pid) (sym found.1) (λ no_turn. no_turn found.0.node found.0.from found.2.first found.2.there found.2.begins)
]

-- ---- whether the nodes are ordered

-- a chain with a turn whose node isn't in order makes the fault hold
pub unordered : (c : Cluster) (who : Who) (pid : Text) (turns : List Turn) → who.pid ≡ pid → IsChain c who turns → list_all (is_turn_ordered c) turns ≡ false → HasUnordered c pid
unordered c who pid turns same chain e =
    let (t, among, fails) = one_fails (is_turn_ordered c) turns e in
    record { who = who; turns = turns; names = same; chain = chain; turn = t; among = among; unordered = fails }

-- a chain on nodes that are in order makes the fault fail, as a session has one chain
pub not_unordered : (c : Cluster) (who : Who) (pid : Text) (turns : List Turn) → who.pid ≡ pid → IsChain c who turns → list_all (is_turn_ordered c) turns ≡ true → HasUnordered c pid → ⊥
not_unordered c who pid turns same chain e u =
    let all : list_all (is_turn_ordered c) u.turns ≡ true = ap (list_all (is_turn_ordered c)) (one_chain c who u.who turns u.turns (u.names ∙ sym same) chain u.chain) ∙ e in
    false≢true (sym u.unordered ∙ All-contains (λ t. is_turn_ordered c t ≡ true) u.turns u.turn (AllPass-from_list_all (is_turn_ordered c) u.turns all) u.among)

-- the turns of a chain on ordered nodes are in order
pub in_order : (c : Cluster) (who : Who) (k : ℕ) (turns : List Turn) → AreTurns c who k turns → list_all (is_turn_ordered c) turns ≡ true → All (IsInOrder c) turns
in_order c who k [] are e = All-nil (IsInOrder c)
in_order c who k (t ∷ turns) are e =
    let both = and_parts (is_turn_ordered c t) (list_all (is_turn_ordered c) turns) e in
    All-cons (IsInOrder c) t turns (record { is_within = record { some = are.0.some; within = are.0.within }; ordered = both.0 }) (in_order c who (suc k) turns are.1 both.1)

-- ---- the first fault that holds

module _ (c : Cluster) (pid : Text) where
  -- where each of the four fails, no fault holds
  pub none_holds : (HasNoTurn c pid 0 → ⊥) → (HasNoChain c pid → ⊥) → (HasUnordered c pid → ⊥) → length (naming_places c.taps pid) ≡ 1 → HasNoMakeFault c pid
  none_holds logged chained ordered one fault holds = grind (arith, logged, chained, ordered)

  -- of the faults before this rank none holds
  none_before : (n : ℕ) → (0 < n → HasMakeFault c pid NoLog → ⊥) → (1 < n → HasMakeFault c pid Chain → ⊥) → (2 < n → HasMakeFault c pid Order → ⊥) → n < 4 → (other : Fault) → make_fault_rank other < n → HasMakeFault c pid other → ⊥
  none_before n logged chained ordered h other less holds = grind (arith, logged, chained, ordered)

  -- the first fault is that no node opened the session
  pub first_no_log : HasNoTurn c pid 0 → IsFirstMakeFault c pid NoLog
  first_no_log holds = record { holds = holds; none_before = λ other h. absurd (omega arith) }

  module _ (logged : HasNoTurn c pid 0 → ⊥) where
    -- that its records are no chain
    pub first_chain : HasNoChain c pid → IsFirstMakeFault c pid Chain
    first_chain holds = record { holds = holds; none_before = none_before 1 (λ h. logged) (λ h. absurd (omega arith)) (λ h. absurd (omega arith)) (omega arith) }

    -- the session has a chain
    module _ (who : Who) (turns : List Turn) (same : who.pid ≡ pid) (chain : IsChain c who turns) where
      -- that a node isn't ordered
      pub first_order : list_all (is_turn_ordered c) turns ≡ false → IsFirstMakeFault c pid Order
      first_order fails =
          record { holds = unordered c who pid turns same chain fails; none_before = none_before 2 (λ h. logged) (λ h none. none who turns same chain) (λ h. absurd (omega arith)) (omega arith) }

      module _ (passes : list_all (is_turn_ordered c) turns ≡ true) where
        -- that there is not one client
        pub first_client : (length (naming_places c.taps pid) ≡ 1 → ⊥) → IsFirstMakeFault c pid Client
        first_client holds =
            record { holds = holds; none_before = none_before 3 (λ h. logged) (λ h none. none who turns same chain) (λ h. not_unordered c who pid turns same chain passes) (omega arith) }

        -- where there is one client, no fault holds
        pub no_fault : length (naming_places c.taps pid) ≡ 1 → HasNoMakeFault c pid
        no_fault one = none_holds logged (λ none. none who turns same chain) (not_unordered c who pid turns same chain passes) one
