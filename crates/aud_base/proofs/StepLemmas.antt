-- What is known of the steps of a reading that succeeded.
use Rattle.std.proofs.Common.{◌≡◌, Bool, true, false, Result, Ok, Err, refl}
use Rattle.aud_base.specs.Steps.{◌>>=◌, guard}

module _ {E : Type 0} where
  -- two values of one result are one
  pub same-ok : {A : Type 0} (x y : A) → ◌≡◌ {A = Result A E} (Ok x) (Ok y) → x ≡ y
  same-ok x y e = (cc)

  -- the first step gave a value, and the next went on with it
  pub part-of : {A B : Type 0} (r : Result A E) (f : A → Result B E) (y : B) → (r >>= f) ≡ Ok y → (x : A) × (r ≡ Ok x) × (f x ≡ Ok y)
  part-of (Ok x) f y read = (x, refl, read)
  part-of (Err e) f y read = (cc)

  -- a test held, and the next step gave the value
  pub guard-ok : {B : Type 0} (fault : E) (b : Bool) (r : Result B E) (y : B) → (guard fault b >>= λ _. r) ≡ Ok y → (b ≡ true) × (r ≡ Ok y)
  guard-ok fault true r y e = (refl, e)
  guard-ok fault false r y e = (cc)
