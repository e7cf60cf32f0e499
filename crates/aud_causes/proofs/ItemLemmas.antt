-- Lists of another length are other lists; a cause that holds.
use Rattle.std.proofs.Common.{◌≡◌, ℕ, Bool, true, false, ◌&&◌, List, [], ◌∷◌, length, map, suc, refl, ap, ◌∙◌}
use Rattle.std.specs.Bool.{then_some}
use Rattle.std.specs.Str.{bytes_eq}
use Rattle.serde_json.specs.declared.value.Value.{Value}
use Rattle.aud_sio.specs.declared.whole.Blob.{Blob}
use Rattle.aud_sio.specs.Message.{blob_bytes}
use Rattle.aud_sio.specs.Assembly.{blob_view}
use Rattle.serde_json.specs.View.{items_view, view}
use Rattle.aud_causes.specs.declared.cause.Cause.{Cause}
use Rattle.aud_causes.specs.Delivery.{cause_if}
use Rattle.aud_causes.specs.SameJson.{same_items, same_value}
use Rattle.aud_causes.specs.Contents.{are_same, listed}

-- a cause where it holds, by the method of a Bool
pub then_if : (b : Bool) (cause : Cause) → then_some b cause ≡ cause_if b cause
then_if true cause = refl
then_if false cause = refl

and-false : (b : Bool) → false ≡ b && false
and-false true = refl
and-false false = refl

pub same_items_apart : (xs ys : List Value) → ¬ (length xs ≡ length ys) → false ≡ same_items (items_view xs) (items_view ys)
same_items_apart [] [] n = absurd (n refl)
same_items_apart [] (y ∷ ys) n = refl
same_items_apart (x ∷ xs) [] n = refl
same_items_apart (x ∷ xs) (y ∷ ys) n =
    and-false (same_value (view x) (view y)) ∙ ap (λ b. same_value (view x) (view y) && b) (same_items_apart xs ys (λ e. n (ap suc e)))

-- the items of a list of values, listed, are their values
pub listed_items_view : (vs : List Value) → listed (items_view vs) ≡ map view vs
listed_items_view [] = refl
listed_items_view (v ∷ vs) = ap (λ ds. view v ∷ ds) (listed_items_view vs)

-- attachments of another number are others
pub are_same_apart : (xs : List Blob) (ys : List (List ℕ))
    → ¬ (length xs ≡ length ys) → false ≡ are_same (map blob_bytes (map blob_view xs)) ys
are_same_apart [] [] n = absurd (n refl)
are_same_apart [] (y ∷ ys) n = refl
are_same_apart (x ∷ xs) [] n = refl
are_same_apart (x ∷ xs) (y ∷ ys) n =
    and-false (bytes_eq (blob_bytes (blob_view x)) y)
    ∙ ap (λ b. bytes_eq (blob_bytes (blob_view x)) y && b) (are_same_apart xs ys (λ e. n (ap suc e)))
