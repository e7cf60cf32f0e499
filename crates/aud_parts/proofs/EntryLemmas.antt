-- The entries of the stream that stay events, by their positions.
use Rattle.std.proofs.Common.{◌≡◌, ◌+◌, ℕ, zero, suc, Bool, cond, ◌&&◌, ◌||◌, List, [], ◌∷◌, ◌++◌, map, take, nat_eq, Some, slice_get, refl, sym, ap, ◌∙◌, add-one, arith}
use Rattle.std.specs.List.{list_any}
use Rattle.std.proofs.lemmas.Option.{none-some, same_Some}
use Rattle.aud_tap.specs.declared.records.StreamRec.{StreamRec}
use Rattle.aud_tap.specs.declared.records.StreamRec.TheVariants.{Other}
use Rattle.aud_tap.specs.RecordFields.{offset_of}
use Rattle.aud_node.specs.Stream.{entry}
use Rattle.aud_node.specs.Recoverable.{is_recoverable}
use Rattle.aud_parts.specs.MadeOther.{entry_left}
use Rattle.aud_parts.specs.PartTaps.{stays_event, placed_left}

-- the entry with a number stands at the position after it
pub entry-next : (stream : List StreamRec) (number : ℕ) (event : StreamRec) → slice_get stream number ≡ Some event → entry stream (number + 1) ≡ Some event
entry-next stream number event at = ap (entry stream) (add-one number) ∙ at

-- one more entry
placed-next : (keeps : ℕ → StreamRec → Bool) (first : ℕ) (stream : List StreamRec) (i position : ℕ) (event : StreamRec) → slice_get stream i ≡ Some event → position ≡ first + i
    → placed_left keeps first (take (suc i) stream) ≡ placed_left keeps first (take i stream) ++ entry_left (keeps position) event ∷ []
placed-next keeps first [] i position event at e = absurd (none-some event at)
placed-next keeps first (x ∷ xs) zero position event at e =
    let same : first ≡ position = omega (arith, e) in
    ap (λ p. entry_left (keeps p) x ∷ []) same ∙ ap (λ y. entry_left (keeps position) y ∷ []) (same_Some x event at)
placed-next keeps first (x ∷ xs) (suc i) position event at e =
    ap (λ ys. entry_left (keeps first) x ∷ ys) (placed-next keeps (suc first) xs i position event at (omega (arith, e)))

pub placed-item : (keeps : ℕ → StreamRec → Bool) (stream : List StreamRec) (i : ℕ) (event left : StreamRec) (old new : List StreamRec) → slice_get stream i ≡ Some event
    → left ≡ entry_left (keeps (suc i)) event → old ≡ placed_left keeps 1 (take i stream) → new ≡ old ++ left ∷ [] → new ≡ placed_left keeps 1 (take (i + 1) stream)
placed-item keeps stream i event left old new at is before after =
    after
    ∙ ap (λ xs. xs ++ left ∷ []) before
    ∙ ap (λ x. placed_left keeps 1 (take i stream) ++ x ∷ []) is
    ∙ sym (placed-next keeps 1 stream i (suc i) event at (omega arith))
    ∙ ap (λ n. placed_left keeps 1 (take n stream)) (sym (add-one i))

-- the entry, by a flag that says whether it came
pub stays-left : (is_for : StreamRec → Bool) (came : List ℕ) (position : ℕ) (event left : StreamRec) (flag : Bool) → flag ≡ list_any (nat_eq position) came
    → left ≡ cond (is_recoverable event && (is_for event || flag)) event (Other (offset_of event)) → left ≡ entry_left (stays_event is_for came position) event
stays-left is_for came position event left flag marked made =
    made ∙ ap (λ b. cond (is_recoverable event && (is_for event || b)) event (Other (offset_of event))) marked

-- where a test by position and one by the entry agree, they keep the same
pub placed-same : (keeps : ℕ → StreamRec → Bool) (by_entry : StreamRec → Bool) (first : ℕ) (stream : List StreamRec)
    → ((i : ℕ) (event : StreamRec) → slice_get stream i ≡ Some event → keeps (first + i) event ≡ by_entry event)
    → placed_left keeps first stream ≡ map (entry_left by_entry) stream
placed-same keeps by_entry first [] same = refl
placed-same keeps by_entry first (x ∷ xs) same =
    let here : first + 0 ≡ first = omega arith in
    ap (λ b. cond b x (Other (offset_of x)) ∷ placed_left keeps (suc first) xs) (ap (λ p. keeps p x) (sym here) ∙ same 0 x refl)
    ∙ ap (λ ys. entry_left by_entry x ∷ ys) (placed-same keeps by_entry (suc first) xs later)
  where
    later : (i : ℕ) (event : StreamRec) → slice_get xs i ≡ Some event → keeps (suc first + i) event ≡ by_entry event
    later i event at =
        let next : suc first + i ≡ first + suc i = omega arith in
        ap (λ p. keeps p event) next ∙ same (suc i) event at
