-- The forms of texts, as section "Forms and limits" of docs/FORMAT.md has them.
use Rattle.std.specs.Prelude.{ℕ, ◌==◌, ◌&&◌, nat_le, nat_eq, List, [], ◌∷◌, Bool, false, not, if◌then◌else◌, Option, Some, None}
use Rattle.std.specs.List.{list_all}
use lib.Pointwise.{pointwise}

-- the texts are the same
abbrev pub is_text : List ℕ → List ℕ → Bool
is_text = pointwise nat_eq

-- the value, where it passes the test
abbrev pub passing : {A : Type 0} → (A → Bool) → A → Option A
passing test x = if test x then Some x else None

-- a byte of an offset, a pid or a sid
abbrev pub is_visible : ℕ → Bool
is_visible b = nat_le 33 b && nat_le b 126

-- a text of such bytes alone
abbrev pub is_id : List ℕ → Bool
is_id = list_all is_visible

-- the text begins with this byte
abbrev pub begins_with : ℕ → List ℕ → Bool
begins_with b [] = false
begins_with b (x ∷ t) = x == b

-- a namespace begins with `/` and has no comma
abbrev pub is_namespace : List ℕ → Bool
is_namespace t = begins_with 47 t && list_all (λ b. not (b == 44)) t
