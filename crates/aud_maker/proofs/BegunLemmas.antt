-- A chain's turns are those that the nodes' logs begin.
use Rattle.std.proofs.Common.{◌≡◌, ◌<◌, ◌≤◌, ◌+◌, ℕ, zero, suc, Bool, true, false, cond, List, [], ◌∷◌, ◌++◌, length, drop, filter, Option, Some, None, option_map, slice_get, refl, sym, ap, subst, ◌∙◌, ◌⊎◌, inl, inr, arith}
use Rattle.std.specs.List.{Contains, All}
use Rattle.std.proofs.lemmas.Bool.{cases_eq, false≢true}
use Rattle.std.proofs.lemmas.Option.{same_Some, none-some, slice_get_within, slice_get_past, get_or_from_slice_get}
use Rattle.std.proofs.lemmas.List.Folds.{list_any_at}
use Rattle.aud_tap.specs.declared.records.NodeRec.{NodeRec}
use Rattle.aud_tap.specs.declared.taps.Tap.{Tap}
use Rattle.aud_node.specs.Cluster.{Cluster, node_log}
use Rattle.aud_node.specs.Lists.{numbers_from, first_index}
use Rattle.aud_node.specs.Stream.{Text}
use Rattle.aud_node.specs.TurnRecords.{pid_of, begins_turn, rest_of_turn, turn_in, turn_range}
use Rattle.aud_node.specs.OwnRecords.{is_pid, record_names, own_numbers}
use Rattle.aud_node.specs.OwnPlaces.{has_own, own_places}
use Rattle.aud_base.proofs.Lists.{drop_at}
use Rattle.aud_node.proofs.ListLemmas.{first_index-found, first_index-none}
use Rattle.aud_node.proofs.TurnLemmas.{IsWithin, turn_range-within}
use Rattle.aud_rooms.specs.Turns.{Who, Turn, beginning, HasNoTurn, IsChain}
use Rattle.aud_rooms.proofs.Members.{contains-none, contains-parts, contains-first, contains-later}
use Rattle.aud_base.proofs.SameText.{same_text, itself_text}
use Rattle.aud_maker.specs.Begun.{placed_or, turn_begun, AreBegun, AreAllBegun}
use Rattle.aud_maker.specs.Private.Begun.{BeginsUpTo}
use Rattle.aud_maker.proofs.Turns.{begins-names, beginning-begins, turn-to, first_there, found}
use Rattle.std.proofs.lemmas.List.Elements.{All-contains}

-- ---- the nodes with records of the session

-- a number that passes is among those that do
among : (p : ℕ → Bool) (first count n : ℕ) → p n ≡ true → first ≤ n → n < first + count → Contains (filter p (numbers_from first count)) n
among p first zero n e a b = absurd (omega arith)
among p first (suc count) n e a b = go (p first) refl (cases_eq first n) (λ h. among p (suc first) count n e h (omega arith))
  where
    later : List ℕ
    later = filter p (numbers_from (suc first) count)

    go : (v : Bool) → p first ≡ v → (first ≡ n) ⊎ (first ≡ n → ⊥) → (suc first ≤ n → Contains later n) → Contains (cond v (first ∷ later) later) n
    go true v (inl same) rest = subst (Contains (first ∷ later)) same (contains-first first later)
    go true v (inr other) rest = contains-later first later n (rest (omega arith))
    go false v (inl same) rest = absurd (false≢true (sym v ∙ ap p same ∙ e))
    go false v (inr other) rest = rest (omega arith)

-- the tap of a record
pub tap_of : (c : Cluster) (node i : ℕ) (rec : NodeRec) → slice_get (node_log c node) i ≡ Some rec → (tap : Tap) × (slice_get c.taps node ≡ Some tap)
tap_of c node i rec at = grind arith

-- a record with the session's pid names it
pub named : (pid : Text) (rec : NodeRec) → pid_of rec ≡ Some pid → record_names (Some rec) pid ≡ true
named pid rec e = ap (λ o. is_pid o pid) e ∙ itself_text pid

-- a record that names the session has its pid
pub unnamed : (rec : NodeRec) (pid : Text) → record_names (Some rec) pid ≡ true → pid_of rec ≡ Some pid
unnamed rec pid e = grind (arith, e, λ (other : Text). same_text other pid)

-- the number of a record of the session is one of its numbers
pub own_number : (log : List NodeRec) (pid : Text) (i : ℕ) (rec : NodeRec) → slice_get log i ≡ Some rec → pid_of rec ≡ Some pid → Contains (own_numbers log pid) i
own_number log pid i rec at names_it =
    let within = slice_get_within log i rec at in
    among (λ number. record_names (slice_get log number) pid) 0 (length log) i (ap (λ o. record_names o pid) at ∙ named pid rec names_it) (omega arith) (omega arith)

-- its node is one of the places
pub own_place : (c : Cluster) (pid : Text) (node i : ℕ) (rec : NodeRec) → slice_get (node_log c node) i ≡ Some rec → pid_of rec ≡ Some pid → Contains (own_places c pid) node
own_place c pid node i rec at names_it =
    let (tap, there) = tap_of c node i rec at in
    let within = slice_get_within c.taps node tap there in
    let some = list_any_at (λ (r : NodeRec). record_names (Some r) pid) (node_log c node) i rec (slice_get_within (node_log c node) i rec at)
    (ap (λ r. record_names (Some r) pid) (get_or_from_slice_get (node_log c node) i rec rec at) ∙ named pid rec names_it) in
    among (has_own c pid) 0 (length c.taps) node some (omega arith) (omega arith)

-- ---- the turn that a log begins

-- the numbers of turn k: of the first record that begins it, and of the rest of the turn after that
pub record IsIndexed (log : List NodeRec) (pid : Text) (k from to : ℕ) : Type 0 where
  pub first : NodeRec
  pub there : slice_get log from ≡ Some first
  pub parts : drop from log ≡ first ∷ drop (suc from) log
  pub begins : begins_turn pid k first ≡ true
  pub within : to ≤ length log
  pub to_is : to ≡ suc (from + length (rest_of_turn pid (drop (suc from) log)))

-- no record of the log begins turn k
abbrev pub BeginsNone : List NodeRec → Text → ℕ → Type 0
BeginsNone log pid k = (i : ℕ) (rec : NodeRec) → slice_get log i ≡ Some rec → begins_turn pid k rec ≡ true → ⊥

-- the log begins no such turn, or it begins one
abbrev MayIndex : List NodeRec → Text → ℕ → Type 0
MayIndex log pid k =
    ((turn_range log pid k ≡ None) × BeginsNone log pid k) ⊎ ((from : ℕ) × (to : ℕ) × (turn_range log pid k ≡ Some (from, to)) × IsIndexed log pid k from to)

-- a log has no record that begins turn k, or the first one and the rest of the turn are found
indexed : (log : List NodeRec) (pid : Text) (k : ℕ) → MayIndex log pid k
indexed log pid k = go (first_index (begins_turn pid k) log) refl
  where
    go : (o : Option ℕ) → first_index (begins_turn pid k) log ≡ o → MayIndex log pid k
    go None e = inl (ap (option_map (λ from. (from, from + length (turn_in pid (drop from log))))) e, first_index-none (begins_turn pid k) log e)
    go (Some from) e =
        let (first, there, begins) = first_index-found (begins_turn pid k) log from e in
        let parts = drop_at log from first there in
        let is : turn_range log pid k ≡ Some (from, from + length (turn_in pid (drop from log))) = ap (option_map (λ n. (n, n + length (turn_in pid (drop n log))))) e in
        inr (
          from,
          from + length (turn_in pid (drop from log)),
          is,
          record {
            first = first;
            there = there;
            parts = parts;
            begins = begins;
            within = (subst (IsWithin (length log)) is (turn_range-within log pid k)).1;
            to_is = grind (arith, parts);
          },
        )

-- the turn k of the session that a node begins
abbrev pub IsBegun : Cluster → Text → ℕ → Turn → Type 0
IsBegun c pid k t = IsIndexed (node_log c t.node) pid k t.from t.to

-- of some nodes none begins the turn, or the first that does begins this one
abbrev MayBegin : Cluster → Text → ℕ → List ℕ → Type 0 → Type 0
MayBegin c pid k nodes none = ((turn_begun c nodes pid k ≡ None) × none) ⊎ ((t : Turn) × (turn_begun c nodes pid k ≡ Some t) × IsBegun c pid k t)

-- none of these nodes begins it
abbrev NoneOf : Cluster → Text → ℕ → List ℕ → Type 0
NoneOf c pid k nodes = (node : ℕ) → Contains nodes node → BeginsNone (node_log c node) pid k

-- none of these nodes begins turn k, or the first that does is found
begun-among : (c : Cluster) (pid : Text) (k : ℕ) (nodes : List ℕ) → MayBegin c pid k nodes (NoneOf c pid k nodes)
begun-among c pid k [] = inl (refl, λ node here. absurd (contains-none node here))
begun-among c pid k (node ∷ nodes) = go (indexed (node_log c node) pid k) (begun-among c pid k nodes)
  where
    both : BeginsNone (node_log c node) pid k → NoneOf c pid k nodes → NoneOf c pid k (node ∷ nodes)
    both here others other among = elim (contains-parts node nodes other among) as (λ _. BeginsNone (node_log c other) pid k) [
      | inl same ↦ subst (λ n. BeginsNone (node_log c n) pid k) same here
      | inr is ↦ others other is
    ]

    go : MayIndex (node_log c node) pid k → MayBegin c pid k nodes (NoneOf c pid k nodes) → MayBegin c pid k (node ∷ nodes) (NoneOf c pid k (node ∷ nodes))
    go (inr (from, to, is, r)) others = inr (record { node = node; from = from; to = to }, ap (placed_or (turn_begun c nodes pid k) node) is, r)
    go (inl (none, nowhere)) (inr (t, is, r)) = inr (t, ap (placed_or (turn_begun c nodes pid k) node) none ∙ is, r)
    go (inl (none, nowhere)) (inl (no_other, others)) = inl (ap (placed_or (turn_begun c nodes pid k) node) none ∙ no_other, both nowhere others)

-- some node begins it, or none does
pub begun : (c : Cluster) (pid : Text) (k : ℕ) → ((turn_begun c (own_places c pid) pid k ≡ None) × HasNoTurn c pid k) ⊎ ((t : Turn) × (turn_begun c (own_places c pid) pid k ≡ Some t) × IsBegun c pid k t)
begun c pid k = elim (begun-among c pid k (own_places c pid)) as (λ _. MayBegin c pid k (own_places c pid) (HasNoTurn c pid k)) [
  | inl none ↦ inl (none.0, λ node i rec at begins. none.1 node (own_place c pid node i rec at (begins-names pid k rec begins)) i rec at begins)
  | inr is ↦ inr is
]

-- a turn that is found begun is one that its node's log begins
pub begun-is : (c : Cluster) (pid : Text) (k : ℕ) (t : Turn) → turn_begun c (own_places c pid) pid k ≡ Some t → IsBegun c pid k t
begun-is c pid k t e = grind (arith, begun c pid k)

-- no turn is begun past the last number
pub none_past : (c : Cluster) (pid : Text) (last k : ℕ) → ((node : ℕ) → BeginsUpTo (node_log c node) pid last) → last < k → turn_begun c (own_places c pid) pid k ≡ None
none_past c pid last k upto h = grind (arith, begun c pid k, upto)

-- ---- the turns of a chain

-- a turn by its node, the number of its first record and that after its last
abbrev turn_with : ℕ → ℕ → ℕ → Turn
turn_with node from to = record { node = node; from = from; to = to }

-- they are those that the nodes begin
pub chain-begun : (c : Cluster) (who : Who) (turns : List Turn) → IsChain c who turns → (k : ℕ) → turn_begun c (own_places c who.pid) who.pid k ≡ slice_get turns k
chain-begun c who turns chain k = go (begun c who.pid k) (slice_get turns k) refl
  where
    go : MayBegin c who.pid k (own_places c who.pid) (HasNoTurn c who.pid k) → (o : Option Turn) → slice_get turns k ≡ o → turn_begun c (own_places c who.pid) who.pid k ≡ o
    go (inl (none, nowhere)) None at = none
    go (inl (none, nowhere)) (Some t) at = let (later, turn) = first_there c who turns k t chain.are_turns at in absurd (nowhere t.node t.from (beginning who k) turn.begins (beginning-begins who k))
    go (inr (t, is, r)) o at =
        let (u, there, node, from) = found c who turns chain t.node t.from k r.first r.there r.begins in
        let (later, turn) = first_there c who turns k u chain.are_turns there in
        let to : u.to ≡ t.to = grind (arith, turn-to c who k u later turn, r.to_is, from, node) in
        is ∙ ap (λ n. Some (turn_with n t.from t.to)) (sym node) ∙ ap (λ n. Some (turn_with u.node n t.to)) from ∙ ap (λ n. Some (turn_with u.node u.from n)) (sym to) ∙ sym there ∙ at

-- two lists that say the same of each place are one
same_lists : (f : ℕ → Option Turn) (turns other : List Turn) → ((j : ℕ) → f j ≡ slice_get other j) → ((j : ℕ) (t : Turn) → slice_get turns j ≡ Some t → f j ≡ Some t) → f (length turns) ≡ None → other ≡ turns
same_lists f [] [] is some none = refl
same_lists f [] (u ∷ us) is some none = absurd (none-some u (sym none ∙ is 0))
same_lists f (t ∷ ts) [] is some none = absurd (none-some t (sym (is 0) ∙ some 0 t refl))
same_lists f (t ∷ ts) (u ∷ us) is some none =
    ap (λ x. x ∷ us) (same_Some u t (sym (is 0) ∙ some 0 t refl)) ∙ ap (λ xs. t ∷ xs) (same_lists (λ j. f (suc j)) ts us (λ j. is (suc j)) (λ j. some (suc j)) none)

-- of the turns from turn k on each is begun
begun-at : (c : Cluster) (nodes : List ℕ) (pid : Text) (k : ℕ) (turns : List Turn) → AreBegun c nodes pid k turns → (j : ℕ) (t : Turn) → slice_get turns j ≡ Some t → (n : ℕ) → n ≡ k + j → turn_begun c nodes pid n ≡ Some t
begun-at c nodes pid k [] are j t at n e = absurd (none-some t at)
begun-at c nodes pid k (x ∷ xs) are zero t at n e = let same : n ≡ k = omega arith in ap (turn_begun c nodes pid) same ∙ are.0 ∙ at
begun-at c nodes pid k (x ∷ xs) are (suc j) t at n e = begun-at c nodes pid (suc k) xs are.1 j t at n (omega arith)

-- a chain of the session is all turns that the nodes begin
pub chain-same : (c : Cluster) (who : Who) (pid : Text) (turns other : List Turn) → who.pid ≡ pid → AreAllBegun c pid turns → IsChain c who other → other ≡ turns
chain-same c who pid turns other same all chain =
    same_lists (turn_begun c (own_places c pid) pid) turns other (λ j. subst (λ p. turn_begun c (own_places c p) p j ≡ slice_get other j) same (chain-begun c who other chain j))
    (λ j t at. begun-at c (own_places c pid) pid 0 turns all.begun j t at j (omega arith))
    all.no_more

-- two chains of a session are one
pub one_chain : (c : Cluster) (who one : Who) (turns other : List Turn) → one.pid ≡ who.pid → IsChain c who turns → IsChain c one other → other ≡ turns
one_chain c who one turns other same chain more =
    same_lists (turn_begun c (own_places c who.pid) who.pid) turns other (λ j. subst (λ p. turn_begun c (own_places c p) p j ≡ slice_get other j) same (chain-begun c one other more j))
    (λ j t at. chain-begun c who turns chain j ∙ at)
    (chain-begun c who turns chain (length turns) ∙ slice_get_past turns (length turns) (omega arith))

-- one turn more
pub begun-more : (c : Cluster) (nodes : List ℕ) (pid : Text) (k : ℕ) (turns : List Turn) (t : Turn) → AreBegun c nodes pid k turns → turn_begun c nodes pid (k + length turns) ≡ Some t
    → AreBegun c nodes pid k (turns ++ t ∷ [])
begun-more c nodes pid k [] t are next = (grind (arith, next), tt)
begun-more c nodes pid k (u ∷ us) t are next = (are.0, begun-more c nodes pid (suc k) us t are.1 (grind (arith, next)))

-- ---- the last turn that a session's records begin

-- the record with this number begins no greater turn
abbrev pub IsUpTo : List NodeRec → Text → ℕ → ℕ → Type 0
IsUpTo log pid last i = (k : ℕ) (rec : NodeRec) → slice_get log i ≡ Some rec → begins_turn pid k rec ≡ true → k ≤ last

-- what the session's records say, the log says
pub log-upto : (log : List NodeRec) (pid : Text) (last : ℕ) → All (IsUpTo log pid last) (own_numbers log pid) → BeginsUpTo log pid last
log-upto log pid last all i k rec at begins =
    All-contains (IsUpTo log pid last) (own_numbers log pid) i all (own_number log pid i rec at (begins-names pid k rec begins)) k rec at begins

-- what the nodes with such records say, all say
pub nodes-upto : (c : Cluster) (pid : Text) (last : ℕ) → All (λ node. BeginsUpTo (node_log c node) pid last) (own_places c pid) → (node : ℕ) → BeginsUpTo (node_log c node) pid last
nodes-upto c pid last all node i k rec at begins =
    All-contains (λ n. BeginsUpTo (node_log c n) pid last) (own_places c pid) node all (own_place c pid node i rec at (begins-names pid k rec begins)) i k rec at begins
