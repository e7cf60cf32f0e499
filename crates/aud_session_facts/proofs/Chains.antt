-- Where something does not fit, there is no chain.
use Rattle.std.proofs.Common.{◌≡◌, ◌<◌, ◌≤◌, ◌+◌, ◌-◌, ℕ, zero, suc, true, false, Bool, List, [], ◌∷◌, length, drop, Some, slice_get, refl, sym, ap, subst, ◌∙◌, ◌⊎◌, inl, inr, arith, nat_eq}
use Rattle.std.proofs.lemmas.Bool.{false≢true, and_parts}
use Rattle.std.proofs.lemmas.Bool.Decides.{nat_tests}
use Rattle.std.proofs.lemmas.Option.{same_Some, none-some, slice_get_within}
use Rattle.aud_tap.specs.declared.records.NodeRec.{NodeRec}
use Rattle.aud_tap.specs.declared.records.NodeRec.TheVariants.{Broke, Gone}
use Rattle.aud_node.specs.Cluster.{Cluster, node_log}
use Rattle.aud_node.specs.Lists.{is_empty}
use Rattle.aud_node.specs.OwnPlaces.{own_places}
use Rattle.aud_node.specs.Stream.{Text}
use Rattle.aud_node.specs.TurnRecords.{ends_any_turn, turn_range}
use Rattle.aud_base.proofs.SameText.{itself_text}
use Rattle.aud_rooms.specs.Turns.{Who, Turn, beginning, HasNoTurn, IsTurn, IsChain}
use Rattle.aud_rooms.proofs.Turns.{Stands, stands, begins_there, beginning-begins}
use Rattle.aud_maker.specs.Chain.{HasNoChain}
use Rattle.aud_maker.specs.Begun.{turn_begun, AreBegun}
use Rattle.aud_maker.specs.Ended.{end_by, may_end, is_ended, are_ended}
use Rattle.aud_maker.proofs.Turns.{first_there, found, turn-to}
use Rattle.aud_maker.proofs.BegunLemmas.{chain-begun}
use Rattle.aud_maker.proofs.EndedLemmas.{turns-ended}
use Rattle.aud_session_facts.specs.declared.place.RecordPlace.{RecordPlace}
use Rattle.aud_session_facts.specs.declared.misfit.Misfit.{Misfit}
use Rattle.aud_session_facts.specs.declared.misfit.Misfit.TheVariants.{NeverOpened, BegunTwice, MissingTurn, BeforeTurns, AfterTurn, InsideTurn, MissingBreak, StrayBreak, OtherBreak, BackAfterGone}
use Rattle.aud_session_facts.specs.Places.{IsOwn, Begins}
use Rattle.aud_session_facts.specs.Misfit.{IsBegunTwice, IsMissingTurn, IsBeforeTurns, IsAfterTurn, IsInsideTurn, IsUnbroken, IsOtherBreak, IsBackAfterGone, IsMisfit}
use Rattle.aud_session_facts.proofs.Ranges.{range-indexed}

-- ---- lists

-- where there is a later element there is an earlier one
earlier : (turns : List Turn) (k n : ℕ) (t : Turn) → k < n → slice_get turns n ≡ Some t → (u : Turn) × (slice_get turns k ≡ Some u)
earlier [] k n t h at = absurd (none-some t at)
earlier (x ∷ xs) zero n t h at = (x, refl)
earlier (x ∷ xs) (suc k) zero t h at = absurd (omega arith)
earlier (x ∷ xs) (suc k) (suc n) t h at = earlier xs k n t (omega arith) at

-- a list that isn't empty has a first element
head : (turns : List Turn) → 0 < length turns → (t : Turn) × (slice_get turns 0 ≡ Some t)
head [] h = absurd (omega arith)
head (x ∷ xs) h = (x, refl)

-- where there is an element, others are left
some-left : (turns : List Turn) (n : ℕ) (t : Turn) → slice_get turns n ≡ Some t → is_empty (drop n turns) ≡ false
some-left [] n t at = absurd (none-some t at)
some-left (x ∷ xs) zero t at = refl
some-left (x ∷ xs) (suc n) t at = some-left xs n t at

-- one number is at most another, or greater
cases_le : (a b : ℕ) → (a ≤ b) ⊎ (b < a)
cases_le zero b = inl (omega arith)
cases_le (suc a) zero = inr (omega arith)
cases_le (suc a) (suc b) = elim (cases_le a b) as (λ _. (suc a ≤ suc b) ⊎ (suc b < suc a)) [ inl h ↦ inl (omega arith) | inr h ↦ inr (omega arith) ]

-- two places of one node and one number are one
same-place : (p q : RecordPlace) → p.node ≡ q.node → p.number ≡ q.number → p ≡ q
same-place p q node number =
    let first : p ≡ record { node = q.node; number = p.number } = ap (λ n. let r : RecordPlace = record { node = n; number = p.number } in r) node in
    let second : record { node = q.node; number = p.number } ≡ q = ap (λ n. let r : RecordPlace = record { node = q.node; number = n } in r) number in
    first ∙ second

-- ---- how the turns of a chain end

-- turns that are found in their order are begun
are-begun : (c : Cluster) (nodes : List ℕ) (pid : Text) (k : ℕ) (turns : List Turn) → ((j n : ℕ) → n ≡ k + j → turn_begun c nodes pid n ≡ slice_get turns j) → AreBegun c nodes pid k turns
are-begun c nodes pid k [] is = tt
are-begun c nodes pid k (t ∷ later) is = (is 0 k (omega arith), are-begun c nodes pid (suc k) later (λ j n e. is (suc j) n (omega arith)))

-- of turns that end as they may each does
ended-at : (c : Cluster) (pid : Text) (k : ℕ) (turns : List Turn) → are_ended c pid k turns ≡ true → (j n : ℕ) (t : Turn) → n ≡ k + j → slice_get turns j ≡ Some t
    → is_ended c pid n t (is_empty (drop (suc j) turns)) ≡ true
ended-at c pid k [] ended j n t e at = absurd (none-some t at)
ended-at c pid k (x ∷ later) ended zero n t e at =
    let both = and_parts (is_ended c pid k x (is_empty later)) (are_ended c pid (suc k) later) ended in
    let same : k ≡ n = omega (arith, e) in
    subst (λ y. is_ended c pid n y (is_empty later) ≡ true) (same_Some x t at) (subst (λ m. is_ended c pid m x (is_empty later) ≡ true) same both.0)
ended-at c pid k (x ∷ later) ended (suc j) n t e at =
    let both = and_parts (is_ended c pid k x (is_empty later)) (are_ended c pid (suc k) later) ended in
    ended-at c pid (suc k) later both.1 j n t (omega (arith, e)) at

-- a turn doesn't end by a `break` of another number
other-break : (c : Cluster) (pid : Text) (k other : ℕ) (t : Turn) (is_last : Bool) → is_ended c pid k t is_last ≡ true → slice_get (node_log c t.node) (t.to - 1) ≡ Some (Broke pid other) → (other ≡ k → ⊥) → ⊥
other-break c pid k other t is_last ended at differs = grind (arith, nat_tests, ended, at, itself_text pid)

-- a turn before others doesn't end with the session
gone-before : (c : Cluster) (pid : Text) (k : ℕ) (t : Turn) → is_ended c pid k t false ≡ true → slice_get (node_log c t.node) (t.to - 1) ≡ Some (Gone pid) → ⊥
gone-before c pid k t ended at = grind (arith, nat_tests, ended, at, itself_text pid)

-- or the last turn, and there the log ends
end-with-log : (pid : Text) (k : ℕ) (last : NodeRec) (is_last with_log : Bool) → ends_any_turn pid last ≡ false → may_end is_last with_log (end_by pid k (Some last)) ≡ true → (is_last ≡ true) × (with_log ≡ true)
end-with-log pid k last is_last with_log lasting may = grind (arith, nat_tests, lasting, may)

module _ (c : Cluster) (who : Who) (turns : List Turn) (chain : IsChain c who turns) where
  -- each turn ends as it may
  ends : (k : ℕ) (t : Turn) → slice_get turns k ≡ Some t → is_ended c who.pid k t (is_empty (drop (suc k) turns)) ≡ true
  ends k t at =
      let begun = are-begun c (own_places c who.pid) who.pid 0 turns (λ j n e. (let same : n ≡ j = omega (arith, e) in ap (turn_begun c (own_places c who.pid) who.pid) same ∙ chain-begun c who turns chain j)) in
      ended-at c who.pid 0 turns (turns-ended c who 0 turns begun chain.are_turns) k k t (omega arith) at

  -- a turn by its node and its records
  record IsAt (k : ℕ) (t : Turn) (node from to : ℕ) : Type 0 where
    at : slice_get turns k ≡ Some t
    same_node : t.node ≡ node
    same_from : t.from ≡ from
    same_to : t.to ≡ to

  -- a turn that a log begins is the one of that number
  turn_of : (k node from to : ℕ) → turn_range (node_log c node) who.pid k ≡ Some (from, to) → (t : Turn) × IsAt k t node from to
  turn_of k node from to ranged =
      let r = range-indexed (node_log c node) who.pid k from to ranged in
      let (t, there, same, first) = found c who turns chain node from k r.first r.there r.begins in
      let (later, turn) = first_there c who turns k t chain.are_turns there in
      let last : t.to ≡ to = grind (arith, turn-to c who k t later turn, r.to_is, first, same) in
      (t, record { at = there; same_node = same; same_from = sym first; same_to = last })

  -- the turn that a record begins
  first-of : (k : ℕ) (place : RecordPlace) → Begins c who.pid k place → (t : Turn) × (slice_get turns k ≡ Some t) × (t.node ≡ place.node) × (place.number ≡ t.from)
  first-of k place begins = found c who turns chain place.node place.number k begins.rec begins.there begins.begins

  never-opened : HasNoTurn c who.pid 0 → ⊥
  never-opened none =
      let (t, at) = head turns chain.some in
      let (later, turn) = first_there c who turns 0 t chain.are_turns at in
      none t.node t.from (beginning who 0) turn.begins (beginning-begins who 0)

  begun-twice : (k : ℕ) (first again : RecordPlace) → IsBegunTwice c who.pid k first again → ⊥
  begun-twice k first again is =
      let (t, at, node, from) = first-of k first is.first_begins in
      let (u, at', node', from') = first-of k again is.again_begins in
      let same : t ≡ u = same_Some t u (sym at ∙ at') in
      is.two (same-place first again (sym node ∙ ap (λ (x : Turn). x.node) same ∙ node') (from ∙ ap (λ (x : Turn). x.from) same ∙ sym from'))

  missing-turn : (k : ℕ) (back : RecordPlace) → IsMissingTurn c who.pid k back → ⊥
  missing-turn k back is =
      let (t, at, node, from) = first-of is.later back is.begins in
      let (u, there) = earlier turns k is.later t is.is_later at in
      let (later, turn) = first_there c who turns k u chain.are_turns there in
      is.missing u.node u.from (beginning who k) turn.begins (beginning-begins who k)

  -- where a record of the session stands
  where_own : (place : RecordPlace) → IsOwn c who.pid place → Stands c who 0 turns place.node place.number
  where_own place own = stands c who 0 turns place.node place.number chain.are_turns (chain.covers place.node place.number own.rec own.there own.names)

  -- the first record of the turn where it stands
  first_there_of : (node number : ℕ) (s : Stands c who 0 turns node number) → slice_get (node_log c node) s.turn.from ≡ Some (beginning who (0 + s.index))
  first_there_of node number s = ap (λ n. slice_get (node_log c n) s.turn.from) (sym s.same_node) ∙ s.is_turn.begins

  before-turns : (place : RecordPlace) → IsBeforeTurns c who.pid place → ⊥
  before-turns place is =
      let s = where_own place is.own in
      is.none_begun s.turn.from (0 + s.index) (beginning who (0 + s.index)) s.from_le (first_there_of place.node place.number s) (beginning-begins who (0 + s.index))

  -- two turns of one node, of which the second goes on past the end of the first, and began before that end
  apart : (k : ℕ) (t : Turn) → slice_get turns k ≡ Some t → (node number : ℕ) (s : Stands c who 0 turns node number) → t.node ≡ node → t.to ≤ number → s.turn.from < t.to → ⊥
  apart k t at node number s same past before = go (cases_le s.turn.from t.from)
    where
      there : (later : List Turn) × IsTurn c who k t later
      there = first_there c who turns k t chain.are_turns at

      begins : slice_get (node_log c node) t.from ≡ Some (beginning who k)
      begins = ap (λ n. slice_get (node_log c n) t.from) (sym same) ∙ there.1.begins

      other : slice_get (node_log c node) s.turn.from ≡ Some (beginning who (0 + s.index))
      other = first_there_of node number s

      go : (s.turn.from ≤ t.from) ⊎ (t.from < s.turn.from) → ⊥
      go (inl h) =
          let some = there.1.some in
          let under = s.below in
          let inside : Stands c who 0 turns node t.from = record { index = s.index; turn = s.turn; later = s.later; is_there = s.is_there; is_turn = s.is_turn; same_node = s.same_node; from_le = h; below = omega (arith, some, under, past) } in
          let (index, from) = begins_there c who turns node t.from k (beginning who k) chain.are_turns begins (beginning-begins who k) inside in
          let one : s.turn ≡ t = same_Some s.turn t (sym s.is_there ∙ ap (slice_get turns) index ∙ at) in
          let ends_same : s.turn.to ≡ t.to = ap (λ (x : Turn). x.to) one in
          omega (arith, ends_same, under, past)
      go (inr h) =
          let first : k ≡ 0 + k = omega arith in
          let inside : Stands c who 0 turns node s.turn.from = record { index = k; turn = t; later = there.0; is_there = at; is_turn = subst (λ n. IsTurn c who n t there.0) first there.1; same_node = same; from_le = omega (arith, h); below = before } in
          let (index, from) = begins_there c who turns node s.turn.from (0 + s.index) (beginning who (0 + s.index)) chain.are_turns other (beginning-begins who (0 + s.index)) inside in
          omega (arith, from, h)

  after-turn : (end place : RecordPlace) → IsAfterTurn c who.pid end place → ⊥
  after-turn end place is =
      let (t, at) = turn_of is.turn end.node is.from (suc end.number) is.ranged in
      let s = where_own place is.own in
      let is_later = is.is_later in
      let to_is = at.same_to in
      let before : s.turn.from < t.to = elim (cases_le s.turn.from end.number) as (λ _. s.turn.from < t.to) [
        | inl h ↦ omega (arith, to_is)
        | inr h ↦ absurd (is.none_begun s.turn.from (0 + s.index) (beginning who (0 + s.index)) h s.from_le (first_there_of place.node place.number s) (beginning-begins who (0 + s.index)))
      ] in
      apart is.turn t at.at place.node place.number s (at.same_node ∙ is.same_node) (omega (arith, to_is, is_later)) before

  -- a turn whose last record is no `break` and no `gone` is the last, and its node's log ends there
  open-last : (k node from to : ℕ) (last : NodeRec) → turn_range (node_log c node) who.pid k ≡ Some (from, to) → slice_get (node_log c node) (to - 1) ≡ Some last → ends_any_turn who.pid last ≡ false
      → (is_empty (drop (suc k) turns) ≡ true) × (nat_eq to (length (node_log c node)) ≡ true)
  open-last k node from to last ranged there lasting =
      let (t, at) = turn_of k node from to ranged in
      let ended : may_end (is_empty (drop (suc k) turns)) (nat_eq t.to (length (node_log c t.node))) (end_by who.pid k (slice_get (node_log c t.node) (t.to - 1))) ≡ true = ends k t at.at in
      let here = subst (λ n. may_end (is_empty (drop (suc k) turns)) (nat_eq t.to (length (node_log c n))) (end_by who.pid k (slice_get (node_log c n) (t.to - 1))) ≡ true) at.same_node ended in
      let now = subst (λ m. may_end (is_empty (drop (suc k) turns)) (nat_eq m (length (node_log c node))) (end_by who.pid k (slice_get (node_log c node) (m - 1))) ≡ true) at.same_to here in
      end-with-log who.pid k last (is_empty (drop (suc k) turns)) (nat_eq to (length (node_log c node))) lasting (subst (λ o. may_end (is_empty (drop (suc k) turns)) (nat_eq to (length (node_log c node))) (end_by who.pid k o) ≡ true) there now)

  inside-turn : (begin place : RecordPlace) → IsInsideTurn c who.pid begin place → ⊥
  inside-turn begin place is =
      let (last, log) = open-last is.turn begin.node begin.number place.number is.last is.ranged is.last_there is.ends_not in
      let there : slice_get (node_log c begin.node) place.number ≡ Some is.rec = ap (λ n. slice_get (node_log c n) place.number) is.same_node ∙ is.there in
      let within = slice_get_within (node_log c begin.node) place.number is.rec there in
      grind (arith, nat_tests, log, within)

  unbroken : (k : ℕ) (begin back : RecordPlace) → IsUnbroken c who.pid k begin back → ⊥
  unbroken k begin back is =
      let (last, log) = open-last k begin.node begin.number is.to is.last is.ranged is.last_there is.ends_not in
      let (t, at, node, from) = first-of (suc k) back is.next in
      false≢true (sym (some-left turns (suc k) t at) ∙ last)

  other-end : (k : ℕ) (begin broke : RecordPlace) → IsOtherBreak c who.pid k begin broke → ⊥
  other-end k begin broke is =
      let (t, at) = turn_of k begin.node begin.number (suc broke.number) is.ranged in
      let last : t.to - 1 ≡ broke.number = (let to_is = at.same_to in omega (arith, to_is)) in
      let there : slice_get (node_log c t.node) (t.to - 1) ≡ Some (Broke who.pid is.other) = ap (slice_get (node_log c t.node)) last ∙ ap (λ n. slice_get (node_log c n) broke.number) (at.same_node ∙ is.same_node) ∙ is.breaks in
      other-break c who.pid k is.other t (is_empty (drop (suc k) turns)) (ends k t at.at) there is.is_other

  after-gone : (gone back : RecordPlace) → IsBackAfterGone c who.pid gone back → ⊥
  after-gone gone back is =
      let (t, at) = turn_of is.turn gone.node is.from (suc gone.number) is.ranged in
      let (u, next, node, from) = first-of (suc is.turn) back is.next in
      let last : t.to - 1 ≡ gone.number = (let to_is = at.same_to in omega (arith, to_is)) in
      let there : slice_get (node_log c t.node) (t.to - 1) ≡ Some (Gone who.pid) = ap (slice_get (node_log c t.node)) last ∙ ap (λ n. slice_get (node_log c n) gone.number) at.same_node ∙ is.is_gone in
      gone-before c who.pid is.turn t (subst (λ b. is_ended c who.pid is.turn t b ≡ true) (some-left turns (suc is.turn) u next) (ends is.turn t at.at)) there

  -- nothing is amiss in a chain
  fits : (misfit : Misfit) → IsMisfit c who.pid misfit → ⊥
  fits NeverOpened is = never-opened is
  fits (BegunTwice k first again) is = begun-twice k first again is
  fits (MissingTurn k back) is = missing-turn k back is
  fits (BeforeTurns place) is = before-turns place is
  fits (AfterTurn end place) is = after-turn end place is
  fits (InsideTurn begin place) is = inside-turn begin place is
  fits (MissingBreak k begin back) is = unbroken k begin back is.unbroken
  fits (StrayBreak k begin broke back) is = unbroken k begin back is.unbroken
  fits (OtherBreak k begin broke) is = other-end k begin broke is
  fits (BackAfterGone gone back) is = after-gone gone back is

-- where something does not fit, the session has no chain
pub no-chain : (c : Cluster) (pid : Text) (misfit : Misfit) → IsMisfit c pid misfit → HasNoChain c pid
no-chain c pid misfit is who turns same chain = fits c who turns chain misfit (subst (λ p. IsMisfit c p misfit) (sym same) is)
