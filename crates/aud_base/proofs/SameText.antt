-- Texts that are tested for being the same. The other way round, and other tests of lists, are std's.
use Rattle.std.proofs.Common.{◌≡◌, ℕ, true, false, List, refl, sym, ap, ◌∙◌, ◌⊎◌, inl, inr, true≢false, bytes_eq}
use Rattle.std.specs.Cmp.Lexicographic.{bytes_decides}

-- a test of two texts that succeeded: the texts are the same
pub same_text : (a b : List ℕ) → bytes_eq a b ≡ true → a ≡ b
same_text a b = (bytes_decides a b).0

-- a text passes the test against itself
pub itself_text : (a : List ℕ) → bytes_eq a a ≡ true
itself_text a = (bytes_decides a a).1 refl

-- texts that differ fail the test
pub other_text : (a b : List ℕ) → (a ≡ b → ⊥) → bytes_eq a b ≡ false
other_text a b n = elim (bytes_eq a b) as (λ v. bytes_eq a b ≡ v → v ≡ false) [ true ↦ λ e. absurd (n (same_text a b e)) | false ↦ λ e. refl ] refl

-- two cases: the texts are the same, or they differ
pub cases_text : (a b : List ℕ) → (a ≡ b) ⊎ (a ≡ b → ⊥)
cases_text a b = elim (bytes_eq a b) as (λ v. bytes_eq a b ≡ v → (a ≡ b) ⊎ (a ≡ b → ⊥)) [
  | true ↦ λ e. inl (same_text a b e)
  | false ↦ λ e. inr (λ same. true≢false (sym (itself_text b) ∙ ap (λ t. bytes_eq t b) (sym same) ∙ e))
] refl
