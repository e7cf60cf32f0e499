-- Truth values beside one that is known. For the parts of a test that holds see `and_parts` of std's lemmas on Bool.
use Rattle.std.proofs.Common.{◌≡◌, Bool, true, false, ◌&&◌, ◌||◌, refl}

-- a test beside one that holds
pub and_true : (b : Bool) → (b && true) ≡ b
and_true true = refl
and_true false = refl

-- a test beside one that fails
pub and_none : (b : Bool) → (b && false) ≡ false
and_none true = refl
and_none false = refl

-- a choice beside one that fails
pub or_none : (b : Bool) → (b || false) ≡ b
or_none true = refl
or_none false = refl
