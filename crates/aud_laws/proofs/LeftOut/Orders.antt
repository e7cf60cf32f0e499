-- Whether a log is ordered from which records of other sessions are left out.
use Rattle.std.proofs.Common.{◌≡◌, ◌+◌, ◌<◌, ℕ, zero, suc, Bool, true, false, List, [], ◌∷◌, length, filter, Some, slice_get, refl, sym, ap, subst, ◌∙◌, arith}
use Rattle.std.specs.List.{list_all}
use Rattle.std.proofs.lemmas.Bool.{and_parts, and_from, false≢true}
use Rattle.std.proofs.lemmas.Option.{none-some, same_Some, slice_get_within}
use Rattle.aud_tap.specs.declared.records.StreamRec.{StreamRec}
use Rattle.aud_tap.specs.declared.records.NodeRec.{NodeRec}
use Rattle.aud_base.proofs.Lists.{element_at}
use Rattle.aud_node.specs.Cursors.{cursor_at}
use Rattle.aud_node.specs.Lists.{numbers_from}
use Rattle.aud_node.specs.Ordered.{is_in_order, is_some_in_order, is_ordered}
use Rattle.aud_node.specs.Stream.{Text}
use Rattle.aud_node.proofs.CursorLemmas.{is_in_order_at}
use Rattle.aud_parts.specs.LeftOut.{is_start, keeps_first}
use Rattle.aud_laws.proofs.LeftOut.Places.{moved, stood, moved-none, moved-next, moved-rises, at-moved, at-stood, kept-there, moved-stood}
use Rattle.aud_laws.proofs.LeftOut.Records.{LeavesOthers, another-in_order, another-start, in_order-suc, in_order-first}
use Rattle.aud_laws.proofs.LeftOut.Cursors.{first-kept, cursor-moved}

-- where all consecutive numbers pass, each does
each-number : (test : ℕ → Bool) (first count : ℕ) → list_all test (numbers_from first count) ≡ true → (i : ℕ) → i < count → test (first + i) ≡ true
each-number test first zero all i h = absurd (omega arith)
each-number test first (suc count) all zero h = let same : first + 0 ≡ first = omega arith in ap test same ∙ (and_parts (test first) _ all).0
each-number test first (suc count) all (suc i) h =
    let same : first + suc i ≡ suc first + i = omega arith in ap test same ∙ each-number test (suc first) count (and_parts (test first) _ all).1 i (omega arith)

-- and the other way round
all-numbers : (test : ℕ → Bool) (first count : ℕ) → ((i : ℕ) → i < count → test (first + i) ≡ true) → list_all test (numbers_from first count) ≡ true
all-numbers test first zero each = refl
all-numbers test first (suc count) each =
    let same : first ≡ first + 0 = omega arith in
    and_from (test first) _ (ap test same ∙ each 0 (omega arith))
    (all-numbers test (suc first) count (λ i h. (let next : suc first + i ≡ first + suc i = omega arith in ap test next ∙ each (suc i) (omega arith))))

-- tests of which each passes where the other does
same-tests : (a b : Bool) → (a ≡ true → b ≡ true) → (b ≡ true → a ≡ true) → a ≡ b
same-tests true b there back = sym (there refl)
same-tests false true there back = back refl
same-tests false false there back = refl

module _ (stream : List StreamRec) where
  -- each record of a log, with the cursor before it
  abbrev AreInOrder : List NodeRec → Type 0
  AreInOrder log = (i : ℕ) (rec : NodeRec) → slice_get log i ≡ Some rec → is_in_order stream i (cursor_at stream log i) rec ≡ true

  -- in an ordered log each is in order
  each-in_order : (log : List NodeRec) → is_ordered stream log ≡ true → AreInOrder log
  each-in_order [] e i rec at = absurd (false≢true e)
  each-in_order (x ∷ xs) e i rec at =
      let here = each-number (is_in_order_at stream (x ∷ xs)) 0 (length (x ∷ xs)) e i (slice_get_within (x ∷ xs) i rec at) in
      let same : i ≡ 0 + i = omega arith in
      sym (ap (is_some_in_order stream i (cursor_at stream (x ∷ xs) i)) at) ∙ ap (is_in_order_at stream (x ∷ xs)) same ∙ here

  -- a log of which each is in order is ordered, if there is one
  ordered-each : (log : List NodeRec) (first : NodeRec) → slice_get log 0 ≡ Some first → AreInOrder log → is_ordered stream log ≡ true
  ordered-each [] first at each = absurd (none-some first at)
  ordered-each (x ∷ xs) first at each =
      all-numbers (is_in_order_at stream (x ∷ xs)) 0 (length (x ∷ xs)) (λ i h.
      (let (rec, there) = element_at (x ∷ xs) i h in
      let same : 0 + i ≡ i = omega arith in
      ap (is_in_order_at stream (x ∷ xs)) same ∙ ap (is_some_in_order stream i (cursor_at stream (x ∷ xs) i)) there ∙ each i rec there))

  -- an ordered log has a first record, which is a `start`
  first-there : (log : List NodeRec) → is_ordered stream log ≡ true → (first : NodeRec) × (slice_get log 0 ≡ Some first) × (is_start first ≡ true)
  first-there [] e = absurd (false≢true e)
  first-there (x ∷ xs) e = (x, refl, in_order-first stream x (cursor_at stream (x ∷ xs) 0) (each-in_order (x ∷ xs) e 0 x refl))

module _ (stream : List StreamRec) (pid : Text) (keep : NodeRec → Bool) (leaves : LeavesOthers keep pid) (log : List NodeRec) (starts : keeps_first keep log ≡ true) where
  -- a `start` is kept
  start-kept : (rec : NodeRec) → is_start rec ≡ true → keep rec ≡ true
  start-kept rec e = go (keep rec) refl
    where
      go : (b : Bool) → keep rec ≡ b → b ≡ true
      go true is = refl
      go false out = absurd (false≢true (sym (another-start pid rec (leaves rec out)) ∙ e))

  module _ (first : NodeRec) (there : slice_get log 0 ≡ Some first) (kept : keep first ≡ true) where
    -- where the first record is kept, a later one stays a later one
    later-moved : (i : ℕ) → 0 < moved keep log (suc i)
    later-moved i = let one = moved-next keep log 0 first there kept in let up = moved-rises keep log 1 (suc i) (omega arith) in omega (arith, one, up)

    -- a record that is kept is in order where it was
    in_order-moved : (i : ℕ) (rec : NodeRec) → is_in_order stream (moved keep log i) (cursor_at stream (filter keep log) (moved keep log i)) rec ≡ is_in_order stream i (cursor_at stream log i) rec
    in_order-moved i rec = ap (λ c. is_in_order stream (moved keep log i) c rec) (cursor-moved stream pid keep leaves log starts i) ∙ numbers i
      where
        numbers : (i : ℕ) → is_in_order stream (moved keep log i) (cursor_at stream log i) rec ≡ is_in_order stream i (cursor_at stream log i) rec
        numbers zero = ap (λ n. is_in_order stream n (cursor_at stream log 0) rec) (moved-none keep log)
        numbers (suc i) = go (moved keep log (suc i)) (later-moved i)
          where
            go : (n : ℕ) → 0 < n → is_in_order stream n (cursor_at stream log (suc i)) rec ≡ is_in_order stream (suc i) (cursor_at stream log (suc i)) rec
            go zero h = absurd (omega arith)
            go (suc n) h = in_order-suc stream n i rec (cursor_at stream log (suc i))

  -- what was ordered is
  ordered-there : is_ordered stream log ≡ true → is_ordered stream (filter keep log) ≡ true
  ordered-there e =
      let (first, there, start) = first-there stream log e in
      let kept = start-kept first start in
      let at0 : slice_get (filter keep log) 0 ≡ Some first = ap (slice_get (filter keep log)) (sym (moved-none keep log)) ∙ at-moved keep log 0 first there kept in
      ordered-each stream (filter keep log) first at0 (λ k rec at.
      subst (λ n. is_in_order stream n (cursor_at stream (filter keep log) n) rec ≡ true) (moved-stood keep log k rec at)
      (in_order-moved first there kept (stood keep log k) rec ∙ each-in_order stream log e (stood keep log k) rec (at-stood keep log k rec at)))

  -- and what is was
  ordered-back : is_ordered stream (filter keep log) ≡ true → is_ordered stream log ≡ true
  ordered-back e =
      let (first, at0, start) = first-there stream (filter keep log) e in
      let kept = kept-there keep log 0 first at0 in
      go first start kept (stood keep log 0) (at-stood keep log 0 first at0) (moved-stood keep log 0 first at0)
    where
      each : (first : NodeRec) (there : slice_get log 0 ≡ Some first) (kept : keep first ≡ true) (i : ℕ) (rec : NodeRec) → slice_get log i ≡ Some rec → (b : Bool) → keep rec ≡ b
          → is_in_order stream i (cursor_at stream log i) rec ≡ true
      each first there kept i rec at true is = sym (in_order-moved first there kept i rec) ∙ each-in_order stream (filter keep log) e (moved keep log i) rec (at-moved keep log i rec at is)
      each first there kept zero rec at false out = absurd (false≢true (sym out ∙ ap keep (same_Some rec first (sym at ∙ there)) ∙ kept))
      each first there kept (suc i) rec at false out = another-in_order pid rec (leaves rec out) stream i (cursor_at stream log (suc i))

      go : (first : NodeRec) → is_start first ≡ true → keep first ≡ true → (i : ℕ) → slice_get log i ≡ Some first → moved keep log i ≡ 0 → is_ordered stream log ≡ true
      go first start kept zero there front = ordered-each stream log first there (λ i rec at. each first there kept i rec at (keep rec) refl)
      go first start kept (suc i) there front = absurd (false≢true (sym (first-kept keep log i first starts there kept front) ∙ start))

  -- it is ordered where it was
  pub ordered-moved : is_ordered stream (filter keep log) ≡ is_ordered stream log
  ordered-moved = same-tests (is_ordered stream (filter keep log)) (is_ordered stream log) ordered-back ordered-there
