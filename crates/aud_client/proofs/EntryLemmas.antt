-- Frames that are their entries.
use Rattle.std.proofs.Common.{◌≡◌, ◌∙◌, ◌&&◌, suc, false, List, [], ◌∷◌, ℕ, length, map, refl, sym, ap}
use Rattle.std.proofs.Math.Bool.{and-false}
use Rattle.std.specs.Cmp.Lexicographic.{pointwise}
use Rattle.std.specs.Str.{bytes_eq}
use Rattle.aud_sio.specs.declared.whole.Blob.{Blob}
use Rattle.aud_sio.specs.Message.{blob_bytes}
use Rattle.aud_sio.specs.Assembly.{blob_view}

-- attachments of another number are others
pub are_same_apart : (xs : List Blob) (ys : List (List ℕ))
    → ¬ (length xs ≡ length ys) → false ≡ pointwise bytes_eq (map blob_bytes (map blob_view xs)) ys
are_same_apart [] [] n = absurd (n refl)
are_same_apart [] (y ∷ ys) n = refl
are_same_apart (x ∷ xs) [] n = refl
are_same_apart (x ∷ xs) (y ∷ ys) n =
    sym (and-false (bytes_eq (blob_bytes (blob_view x)) y))
    ∙ ap (λ b. bytes_eq (blob_bytes (blob_view x)) y && b) (are_same_apart xs ys (λ e. n (ap suc e)))
