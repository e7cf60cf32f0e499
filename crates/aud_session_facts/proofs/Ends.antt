-- What does not fit at the end of a turn.
use Rattle.std.proofs.Common.{◌≡◌, ◌<◌, ◌≤◌, ◌-◌, ℕ, zero, suc, true, false, Bool, List, [], ◌∷◌, length, drop, Option, Some, None, slice_get, refl, sym, ap, subst, ◌∙◌, inl, inr, arith, ◌||◌, MatchOption}
use Rattle.std.proofs.lemmas.Bool.{false≢true}
use Rattle.std.proofs.lemmas.Bool.Decides.{nat_tests}
use Rattle.std.proofs.lemmas.Option.{none-some}
use Rattle.std.specs.List.{All, Contains}
use Rattle.std.proofs.lemmas.List.Elements.{All-contains}
use Rattle.aud_tap.specs.declared.records.NodeRec.{NodeRec}
use Rattle.aud_tap.specs.declared.records.NodeRec.TheVariants.{Opened, Broke, Gone}
use Rattle.aud_node.specs.Cluster.{Cluster, node_log}
use Rattle.aud_node.specs.OwnPlaces.{own_places}
use Rattle.aud_node.specs.OwnRecords.{own_numbers}
use Rattle.aud_node.specs.Stream.{Text}
use Rattle.aud_node.specs.TurnRecords.{begins_turn, turn_range}
use Rattle.aud_base.proofs.SameText.{itself_text}
use Rattle.aud_rooms.specs.Turns.{Turn}
use Rattle.aud_maker.specs.Begun.{turn_begun, AreAllBegun}
use Rattle.aud_maker.specs.Ended.{are_ended}
use Rattle.aud_maker.specs.InTurn.{is_swept}
use Rattle.aud_maker.specs.Opening.{names_opened}
use Rattle.aud_maker.proofs.BegunLemmas.{begun-is, own_number, own_place}
use Rattle.aud_maker.proofs.FirstFault.{is_chain}
use Rattle.std.specs.List.{list_all, list_any}
use Rattle.aud_rooms.proofs.Members.{contains-none, contains-parts}
use Rattle.aud_session_facts.specs.Misfit.{IsInsideTurn}
use Rattle.aud_session_facts.proofs.Sweeps.{inside, at-within}
use Rattle.aud_session_facts.specs.declared.place.RecordPlace.{RecordPlace}
use Rattle.aud_session_facts.specs.Places.{record_at, Begins, HasNoBreak}
use Rattle.aud_session_facts.specs.Misfit.{IsUnbroken, IsOtherBreak, IsBackAfterGone, HasChain}
use Rattle.aud_session_facts.specs.Private.Astray.{ends_at}
use Rattle.aud_session_facts.specs.Private.Unended.{IsOpenEnd, IsNext, HasNoBreakOn, is_break_at}
use Rattle.aud_session_facts.proofs.Ranges.{begun-range}
use Rattle.aud_session_facts.proofs.Sweeps.{last-of, begun-there}

-- the first record of a turn
abbrev pub first-place : Turn → RecordPlace
first-place t = record { node = t.node; number = t.from }

-- the first record of a turn that is found begun
begins-first : (c : Cluster) (pid : Text) (k : ℕ) (t : Turn) → turn_begun c (own_places c pid) pid k ≡ Some t → Begins c pid k (first-place t)
begins-first c pid k t is = let r = begun-is c pid k t is in record { rec = r.first; there = r.there; begins = r.begins }

module _ (c : Cluster) (pid : Text) (k : ℕ) (t : Turn) where
  -- a turn that ends by no `break` and no `gone`, before another
  pub unbroken : (next : Turn) → IsOpenEnd c pid k t → turn_begun c (own_places c pid) pid (suc k) ≡ Some next → IsUnbroken c pid k (first-place t) (first-place next)
  unbroken next is follows =
      let ranged = begun-range c pid k (own_places c pid) t is.begun in
      let (last, there) = last-of c pid k t ranged in
      record { to = t.to; ranged = ranged; last = last; last_there = there; ends_not = ap (ends_at pid) (sym there) ∙ is.ends_not; next = begins-first c pid (suc k) next follows }

  -- the number after a turn's last record
  to-is : (is : turn_begun c (own_places c pid) pid k ≡ Some t) (last : RecordPlace) → last.number ≡ t.to - 1 → t.to ≡ suc last.number
  to-is is last number = (let some = begun-is c pid k t is in let to_is = some.to_is in omega (arith, number, to_is))

  -- a turn that a `break` of another number ends
  pub other-break : (last : RecordPlace) (other : ℕ) → turn_begun c (own_places c pid) pid k ≡ Some t → last.node ≡ t.node → last.number ≡ t.to - 1 → record_at c last ≡ Some (Broke pid other) → (other ≡ k → ⊥) → IsOtherBreak c pid k (first-place t) last
  other-break last other is node number at differs =
      record { same_node = sym node; ranged = begun-range c pid k (own_places c pid) t is ∙ ap (λ n. Some (t.from, n)) (to-is is last number); other = other; breaks = at; is_other = differs }

  -- a turn before another that ends with the session
  pub after-gone : (last : RecordPlace) (next : Turn) → turn_begun c (own_places c pid) pid k ≡ Some t → last.node ≡ t.node → last.number ≡ t.to - 1 → record_at c last ≡ Some (Gone pid)
      → turn_begun c (own_places c pid) pid (suc k) ≡ Some next → IsBackAfterGone c pid last (first-place next)
  after-gone last next is node number at follows =
      record {
        turn = k;
        from = t.from;
        ranged = ap (λ n. turn_range (node_log c n) pid k) node ∙ begun-range c pid k (own_places c pid) t is ∙ ap (λ n. Some (t.from, n)) (to-is is last number);
        is_gone = at;
        next = begins-first c pid (suc k) next follows;
      }

-- ---- where a `break` stands

pub is-break : (pid : Text) (k : ℕ) → is_break_at pid k (Some (Broke pid k)) ≡ true
is-break pid k = grind (arith, nat_tests, itself_text pid)

-- the record with this number is the `break`
abbrev pub breaks-at : Cluster → ℕ → Text → ℕ → ℕ → Bool
breaks-at c node pid k number = is_break_at pid k (slice_get (node_log c node) number)

-- where neither is so
or-parts : (a b : Bool) → (a || b) ≡ false → (a ≡ false) × (b ≡ false)
or-parts true b e = absurd (false≢true (sym e))
or-parts false b e = (refl, e)

-- where none passes, each fails
no-test : (p : ℕ → Bool) (xs : List ℕ) → list_any p xs ≡ false → (n : ℕ) → Contains xs n → p n ≡ false
no-test p [] e n here = absurd (contains-none n here)
no-test p (x ∷ xs) e n here = elim (contains-parts x xs n here) as (λ _. p n ≡ false) [
  | inl same ↦ ap p (sym same) ∙ (or-parts (p x) (list_any p xs) e).0
  | inr later ↦ no-test p xs (or-parts (p x) (list_any p xs) e).1 n later
]

-- past the end none is left
past-end : (p : ℕ → Bool) (xs : List ℕ) (i : ℕ) → length xs ≤ i → list_any p (drop i xs) ≡ false
past-end p [] zero h = refl
past-end p [] (suc i) h = refl
past-end p (x ∷ xs) zero h = absurd (omega arith)
past-end p (x ∷ xs) (suc i) h = past-end p xs i (omega arith)

-- where none of the session's records on a node is it, none there is
pub none-on : (c : Cluster) (node : ℕ) (pid : Text) (k i : ℕ) (own : List ℕ) → own ≡ own_numbers (node_log c node) pid → length own ≤ i
    → list_any (breaks-at c node pid k) (drop i own) ≡ list_any (breaks-at c node pid k) own → HasNoBreakOn c node pid k
none-on c node pid k i own same h is number at =
    let fails = no-test (breaks-at c node pid k) own (sym is ∙ past-end (breaks-at c node pid k) own i h) number (subst (λ ns. Contains ns number) (sym same) (own_number (node_log c node) pid number (Broke pid k) at refl)) in
    false≢true (sym fails ∙ ap (is_break_at pid k) at ∙ is-break pid k)

-- where none of the session's nodes has it, none has
pub none-at : (c : Cluster) (pid : Text) (k : ℕ) → All (λ node. HasNoBreakOn c node pid k) (own_places c pid) → HasNoBreak c pid k
none-at c pid k all place at = All-contains (λ node. HasNoBreakOn c node pid k) (own_places c pid) place.node all (own_place c pid place.node place.number (Broke pid k) at refl) place.number at

-- ---- the chain

-- the sid and the namespace that the first turn's first record names
opens : (rec : NodeRec) (pid : Text) → begins_turn pid 0 rec ≡ true → (sid : Text) × (nsp : Text) × (names_opened (Some rec) ≡ Some (sid, nsp))
opens (Opened other sid nsp) pid e = (sid, nsp, refl)
opens _ pid e = absurd (false≢true e)

-- turns that pass all tests are a chain
pub has-chain : (c : Cluster) (pid : Text) (turns : List Turn) → AreAllBegun c pid turns → 0 < length turns → are_ended c pid 0 turns ≡ true → list_all (is_swept c turns pid) (own_places c pid) ≡ true → HasChain c pid
has-chain c pid [] all some ended swept = absurd (omega arith)
has-chain c pid (t ∷ later) all some ended swept =
    let r = begun-is c pid 0 t all.begun.0 in
    let (sid, nsp, names) = opens r.first pid r.begins in
    record { who = record { pid = pid; sid = sid; nsp = nsp }; turns = t ∷ later; names = refl; chain = is_chain c pid (t ∷ later) all sid nsp (ap names_opened r.there ∙ names) ended swept }

-- what is said where there is none follows from what was said
pub at-none : {A : Type 0} (r : Option A) (P P' : Type 0) (Q : A → Type 0) → (P → P') → MatchOption r P Q → MatchOption r P' Q
at-none None P P' Q f said = f said
at-none (Some x) P P' Q f said = said

-- ---- the end of the last turn

-- another record after it
pub open-inside : (c : Cluster) (pid : Text) (k : ℕ) (t : Turn) (rec : NodeRec) → IsOpenEnd c pid k t → slice_get (node_log c t.node) t.to ≡ Some rec → IsInsideTurn c pid (first-place t) (record { node = t.node; number = t.to })
open-inside c pid k t rec is at = inside c pid k t rec (begun-range c pid k (own_places c pid) t is.begun) is.ends_not at

-- none after it
pub to-length : (c : Cluster) (pid : Text) (k : ℕ) (t : Turn) → IsOpenEnd c pid k t → slice_get (node_log c t.node) t.to ≡ None → t.to ≡ length (node_log c t.node)
to-length c pid k t is at =
    let r = begun-is c pid k t is.begun in
    let within = r.within in
    omega (arith, within, below)
  where
    below : t.to < length (node_log c t.node) → ⊥
    below h = let (rec, there) = at-within (node_log c t.node) t.to h in none-some rec (sym at ∙ there)

-- the turn after turn k in the list is the next
pub next-is : (c : Cluster) (pid : Text) (turns : List Turn) → AreAllBegun c pid turns → (k n : ℕ) → n ≡ suc k → (o : Option Turn) → o ≡ slice_get turns n → IsNext c pid k o
next-is c pid turns all k n same None e = tt
next-is c pid turns all k n same (Some t) e = begun-there c pid turns all (suc k) t (ap (slice_get turns) (sym same) ∙ sym e)
