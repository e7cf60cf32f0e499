-- Look-ups, and options.
use Rattle.std.proofs.lemmas.Grind.{common_steps}
use Rattle.std.proofs.lemmas.Option.{gets, slice_get_within, slice_get_cases}
use Rattle.std.proofs.Common.{◌≡◌, arith, ℕ, Bool, true, false, cond, List, set, Option, Some, None, slice_get, refl, sym, ap, ◌∙◌, option_map, option_and_then, bytes_eq}
use Rattle.std.specs.Ordering.{nat_cmp}
use Rattle.std.specs.Cmp.Lexicographic.{slice_cmp, texts_ties, nat_list_cmp_total}
use Rattle.std.specs.FinMap as fin
use Rattle.std.proofs.lemmas.Option.{same_Some, none-some}
use Rattle.aud_node.specs.Stream.{Text}
use Rattle.aud_base.proofs.SameText.{itself_text, other_text}

module _ {X : Type 0} where
  -- what a map has after an insertion: the new value at its key, else what it had
  pub get_insert : (m : fin.FinMap (slice_cmp nat_cmp) X) (k : Text) (v : X) (q : Text) → fin.get (fin.insert m k v) q ≡ cond (bytes_eq q k) (Some v) (fin.get m q)
  get_insert m k v q = fin.get-insert nat_list_cmp_total m k v q ∙ ap (λ b. cond b (Some v) (fin.get m q)) (sym (texts_ties q k))

  -- at the key itself
  pub get_insert_same : (m : fin.FinMap (slice_cmp nat_cmp) X) (k : Text) (v : X) → fin.get (fin.insert m k v) k ≡ Some v
  get_insert_same m k v = get_insert m k v k ∙ ap (λ b. cond b (Some v) (fin.get m k)) (itself_text k)

  -- at another key
  pub get_insert_other : (m : fin.FinMap (slice_cmp nat_cmp) X) (k : Text) (v : X) (q : Text) → (q ≡ k → ⊥) → fin.get (fin.insert m k v) q ≡ fin.get m q
  get_insert_other m k v q n = get_insert m k v q ∙ ap (λ b. cond b (Some v) (fin.get m q)) (other_text q k n)

  -- an element that was set is the new one
  pub slice_get-set_same : (xs : List X) (i : ℕ) (v d : X) → slice_get xs i ≡ Some d → slice_get (set xs i v) i ≡ Some v
  slice_get-set_same xs i v d e = grind (arith, common_steps, gets, slice_get_within xs i d)

  -- the others are as they were
  pub slice_get-set_other : (xs : List X) (i j : ℕ) (v : X) → (j ≡ i → ⊥) → slice_get (set xs i v) j ≡ slice_get xs j
  slice_get-set_other xs i j v n = grind (arith, common_steps, gets, slice_get_cases xs j, slice_get_cases (set xs i v) j)

-- what an option that is there says of its parts
module _ {A B : Type 0} where
  -- both steps gave something
  pub and_then_parts : (f : A → Option B) (o : Option A) (y : B) → option_and_then f o ≡ Some y → (x : A) × (o ≡ Some x) × (f x ≡ Some y)
  and_then_parts f None y e = absurd (none-some y e)
  and_then_parts f (Some x) y e = (x, refl, e)

  -- there was something to map
  pub map_parts : (f : A → B) (o : Option A) (y : B) → option_map f o ≡ Some y → (x : A) × (o ≡ Some x) × (f x ≡ y)
  map_parts f None y e = absurd (none-some y e)
  map_parts f (Some x) y e = (x, refl, same_Some (f x) y e)

-- what a test let through: the test holds, and it was there before
pub cond_parts : {A : Type 0} (b : Bool) (o : Option A) (y : A) → cond b o None ≡ Some y → (b ≡ true) × (o ≡ Some y)
cond_parts true o y e = (refl, e)
cond_parts false o y e = absurd (none-some y e)
