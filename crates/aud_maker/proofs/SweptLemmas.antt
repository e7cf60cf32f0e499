-- The sweep over a session's records finds whether all stand in the turns.
use Rattle.std.proofs.Common.{◌≡◌, ◌<◌, ◌≤◌, ℕ, zero, suc, Bool, true, false, cond, List, [], ◌∷◌, length, filter, Option, Some, None, slice_get, get_or, refl, sym, ap, subst, ◌∙◌, ◌⊎◌, inl, inr, arith}
use Rattle.std.specs.List.{Contains, list_all}
use Rattle.std.proofs.lemmas.Bool.Decides.{nat_tests}
use Rattle.std.proofs.lemmas.Bool.{cases_eq, eq-eqb, false≢true, and_parts, and_from, le-leb}
use Rattle.std.proofs.lemmas.List.Elements.{All-contains}
use Rattle.std.proofs.lemmas.List.Sums.{AllPass-from_list_all, list_all-from_AllPass}
use Rattle.aud_tap.specs.declared.records.NodeRec.{NodeRec}
use Rattle.aud_node.specs.Cluster.{Cluster, node_log}
use Rattle.aud_node.specs.Lists.{numbers_from}
use Rattle.aud_node.specs.Stream.{Text}
use Rattle.aud_node.specs.TurnRecords.{pid_of, begins_turn}
use Rattle.aud_node.specs.OwnPlaces.{own_places}
use Rattle.aud_node.specs.OwnRecords.{record_names, own_numbers}
use Rattle.aud_rooms.specs.Turns.{Who, Turn, beginning, StandsIn, IsChain}
use Rattle.aud_rooms.proofs.Members.{contains-none, contains-parts}
use Rattle.aud_maker.specs.InTurn.{number_begun, turn_or, turn_past, is_in_turn, are_in_turns, is_swept}
use Rattle.aud_maker.proofs.Turns.{begins-names, beginning-begins, no_begin_inside, first_there, stands}
use Rattle.aud_maker.proofs.BegunLemmas.{named, unnamed, own_number, own_place}

-- ---- what the sweep passes stands in the turns

-- what stands in this turn stands in the turns
abbrev IsAmong : List Turn → ℕ → Option Turn → Type 0
IsAmong turns node current = (number : ℕ) → is_in_turn node number current ≡ true → StandsIn node number turns

-- what stands in one of the turns stands in the turns
in-one : (turns : List Turn) (node j : ℕ) → IsAmong turns node (slice_get turns j)
in-one [] node j number e = absurd (false≢true e)
in-one (t ∷ turns) node zero number e = grind arith
in-one (t ∷ turns) node (suc j) number e = inr (in-one turns node j number e)

-- after a record the turn that goes on is still one of the turns
among-past : (turns : List Turn) (node : ℕ) (o : Option NodeRec) (current : Option Turn) → IsAmong turns node current → IsAmong turns node (turn_past turns o current)
among-past turns node None current is = is
among-past turns node (Some rec) current is =
    elim (number_begun rec) as (λ n. IsAmong turns node (turn_or turns n current)) [ None ↦ is | Some k ↦ in-one turns node k ]

-- where the sweep passes a node's records, all of them stand in the turns
in-all : (log : List NodeRec) (turns : List Turn) (node : ℕ) (ns : List ℕ) (current : Option Turn) → IsAmong turns node current → are_in_turns log turns node ns current ≡ true → (n : ℕ) → Contains ns n → StandsIn node n turns
in-all log turns node [] current is all n here = absurd (contains-none n here)
in-all log turns node (x ∷ ns) current is all n here =
    let next = among-past turns node (slice_get log x) current is in
    elim (contains-parts x ns n here) as (λ _. StandsIn node n turns) [
      | inl same ↦ subst (λ m. StandsIn node m turns) same (next x (and_parts _ _ all).0)
      | inr later ↦ in-all log turns node ns (turn_past turns (slice_get log x) current) next (and_parts _ _ all).1 n later
    ]

-- where all nodes are swept, the session's records stand in the turns
pub swept-covers : (c : Cluster) (pid : Text) (turns : List Turn) → list_all (is_swept c turns pid) (own_places c pid) ≡ true
    → (node number : ℕ) (rec : NodeRec) → slice_get (node_log c node) number ≡ Some rec → pid_of rec ≡ Some pid → StandsIn node number turns
swept-covers c pid turns all node number rec at names_it =
    let swept = All-contains (λ place. is_swept c turns pid place ≡ true) (own_places c pid) node (AllPass-from_list_all (is_swept c turns pid) (own_places c pid) all) (own_place c pid node number rec at names_it) in
    in-all (node_log c node) turns node (own_numbers (node_log c node) pid) None (λ n e. absurd (false≢true e)) swept number (own_number (node_log c node) pid number rec at names_it)

-- ---- records that stand in the turns are passed

-- a number that a record of the session gives a turn is that of a turn that it begins
begun-begins : (pid : Text) (rec : NodeRec) (k : ℕ) → record_names (Some rec) pid ≡ true → number_begun rec ≡ Some k → begins_turn pid k rec ≡ true
begun-begins pid rec k own e = grind (arith, nat_tests)

-- the record that begins turn k has the number k
begun-some : (who : Who) (k : ℕ) → number_begun (beginning who k) ≡ Some k
begun-some who k = grind arith

module _ (c : Cluster) (who : Who) (turns : List Turn) (chain : IsChain c who turns) (node : ℕ) where
  -- the node's records
  abbrev log : List NodeRec
  log = node_log c node

  -- the record with this number is the session's
  abbrev own : ℕ → Bool
  own number = record_names (slice_get log number) who.pid

  -- inside a turn of the node it is the turn that goes on before this record
  abbrev GoesOn : ℕ → Option Turn → Type 0
  GoesOn x current = (j : ℕ) (t : Turn) → slice_get turns j ≡ Some t → t.node ≡ node → t.from < x → x < t.to → current ≡ Some t

  -- a turn of the node begins with the record that begins it
  first_record : (j : ℕ) (t : Turn) → slice_get turns j ≡ Some t → t.node ≡ node → slice_get log t.from ≡ Some (beginning who j)
  first_record j t at same = let (later, turn) = first_there c who turns j t chain.are_turns at in ap (λ m. slice_get (node_log c m) t.from) (sym same) ∙ turn.begins

  -- which is the session's
  own_first : (j : ℕ) (t : Turn) → slice_get turns j ≡ Some t → t.node ≡ node → own t.from ≡ true
  own_first j t at same = ap (λ o. record_names o who.pid) (first_record j t at same) ∙ named who.pid (beginning who j) (begins-names who.pid j (beginning who j) (beginning-begins who j))

  -- after a record that isn't the session's
  go_other : (x : ℕ) (current : Option Turn) → own x ≡ false → GoesOn x current → GoesOn (suc x) current
  go_other x current not_own on j t at same from below = grind (arith, own_first j t at same, on j t at same)

  -- after one of the session
  go_own : (x : ℕ) (rec : NodeRec) (current : Option Turn) → slice_get log x ≡ Some rec → record_names (Some rec) who.pid ≡ true → GoesOn x current
      → (j : ℕ) (t : Turn) → slice_get turns j ≡ Some t → t.node ≡ node → t.from ≤ x → x < t.to → turn_past turns (slice_get log x) current ≡ Some t
  go_own x rec current there its on j t at same from below = go (cases_eq t.from x) (number_begun rec) refl
    where
      inside : (t.from ≡ x → ⊥) → (n : ℕ) → number_begun rec ≡ Some n → ⊥
      inside ne n e =
          let (later, turn) = first_there c who turns j t chain.are_turns at in
          no_begin_inside c who j t later turn x n rec (omega arith) below (ap (λ m. slice_get (node_log c m) x) same ∙ there) (begun-begins who.pid rec n its e)

      go : (t.from ≡ x) ⊎ (t.from ≡ x → ⊥) → (n : Option ℕ) → number_begun rec ≡ n → turn_past turns (slice_get log x) current ≡ Some t
      go (inl here) n e = ap (λ o. turn_past turns o current) (ap (slice_get log) (sym here) ∙ first_record j t at same) ∙ ap (λ m. turn_or turns m current) (begun-some who j) ∙ at
      go (inr ne) None e = ap (λ o. turn_past turns o current) there ∙ ap (λ m. turn_or turns m current) e ∙ on j t at same (omega arith) below
      go (inr ne) (Some n) e = absurd (inside ne n e)

  -- it stands in the turn that goes on
  stands_now : (x : ℕ) (rec : NodeRec) (current : Option Turn) → slice_get log x ≡ Some rec → record_names (Some rec) who.pid ≡ true → GoesOn x current → is_in_turn node x (turn_past turns (slice_get log x) current) ≡ true
  stands_now x rec current there its on =
      let s = stands c who 0 turns node x chain.are_turns (chain.covers node x rec there (unnamed rec who.pid its)) in
      ap (is_in_turn node x) (go_own x rec current there its on s.index s.turn s.is_there s.same_node s.from_le s.below)
      ∙ and_from _ _ (eq-eqb s.turn.node node s.same_node) (and_from _ _ (le-leb s.turn.from x s.from_le) (le-leb (suc x) s.turn.to s.below))

  -- the sweep passes the records from this one on
  swept-from : (count x : ℕ) (current : Option Turn) → GoesOn x current → are_in_turns log turns node (filter own (numbers_from x count)) current ≡ true
  swept-from zero x current on = refl
  swept-from (suc count) x current on = go (own x) refl (slice_get log x) refl (λ next goes. swept-from count (suc x) next goes)
    where
      later : List ℕ
      later = filter own (numbers_from (suc x) count)

      go : (v : Bool) → own x ≡ v → (o : Option NodeRec) → slice_get log x ≡ o → ((next : Option Turn) → GoesOn (suc x) next → are_in_turns log turns node later next ≡ true)
          → are_in_turns log turns node (cond v (x ∷ later) later) current ≡ true
      go false e o at ih = ih current (go_other x current e on)
      go true e None at ih = absurd (false≢true (ap (λ o. record_names o who.pid) (sym at) ∙ e))
      go true e (Some rec) at ih =
          let its : record_names (Some rec) who.pid ≡ true = ap (λ o. record_names o who.pid) (sym at) ∙ e in
          and_from _ _ (stands_now x rec current at its on)
          (ih (turn_past turns (slice_get log x) current) (λ j t there same from below. go_own x rec current at its on j t there same (omega arith) (omega arith)))

  -- so it passes the node
  node-swept : is_swept c turns who.pid node ≡ true
  node-swept = swept-from (length log) 0 None (λ j t at same from below. absurd (omega arith))

-- the sweep passes a chain
pub covers-swept : (c : Cluster) (who : Who) (turns : List Turn) → IsChain c who turns → list_all (is_swept c turns who.pid) (own_places c who.pid) ≡ true
covers-swept c who turns chain = list_all-from_AllPass (is_swept c turns who.pid) (own_places c who.pid) (λ k d h. node-swept c who turns chain (get_or (own_places c who.pid) k d))
