-- Bytes that are no text, and those that are no JSON.
use Rattle.std.proofs.Common.{◌≡◌, ℕ, List, false, inl, inr, refl, sym, Option, Some, None, option_map, is_some}
use Rattle.std.specs.Str.{IsUtf8, is_utf8}
use Rattle.std.proofs.lemmas.Bool.{cases_Bool}
use Rattle.std.proofs.lemmas.Option.{none-some}
use Rattle.std.proofs.lemmas.Str.{IsUtf8-from_is_utf8}

-- the test says so
pub is_utf8-not : (bytes : List ℕ) → ¬ IsUtf8 bytes → is_utf8 bytes ≡ false
is_utf8-not bytes other = elim (cases_Bool (is_utf8 bytes)) [ inl is ↦ absurd (other (IsUtf8-from_is_utf8 bytes is)) | inr is ↦ is ]

-- what is seen of both is the same, so both are there or none
pub same_some : {A B C : Type 0} (f : A → C) (g : B → C) (o : Option A) (x : Option B) → option_map f o ≡ option_map g x → is_some o ≡ is_some x
same_some f g None None e = refl
same_some f g None (Some b) e = absurd (none-some (g b) e)
same_some f g (Some a) None e = absurd (none-some (f a) (sym e))
same_some f g (Some a) (Some b) e = refl
