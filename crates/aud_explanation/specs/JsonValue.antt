-- Texts, values that may be missing, members, and lists.
use Rattle.std.specs.Prelude.{ℕ, List, fold, Option, Some, None}
use Rattle.std.specs.Borrow.{Bor}
use Rattle.std.specs.Option.{option_copied}
use Rattle.serde_json.specs.Data.{Data, array, null, string, Members, put}
use Rattle.aud_cert.specs.Text.{items, whole}
use Rattle.aud_explanation.specs.Long.{all_shown, left_out}

-- a text
abbrev pub text_data : Bor (List ℕ) → Data
text_data text = string text.now

-- the text, or `null`
abbrev pub text_or_null : Option (List ℕ) → Data
text_or_null (Some text) = string text
text_or_null None = null

-- the number, or `null`
abbrev pub number_or_null : Option ℕ → Data
number_or_null (Some n) = whole n
number_or_null None = null

-- texts put among other members, each under its name
abbrev pub with_texts : List (Bor (List ℕ) × Option (Bor (List ℕ))) → Members → Members
with_texts texts ms = fold (λ ms (t : Bor (List ℕ) × Option (Bor (List ℕ))). put t.0.now (text_or_null (option_copied t.1)) ms) ms texts

-- numbers put among other members, each under its name
abbrev pub with_numbers : List (Bor (List ℕ) × Option ℕ) → Members → Members
with_numbers numbers ms = fold (λ ms (n : Bor (List ℕ) × Option ℕ). put n.0.now (number_or_null n.1) ms) ms numbers

-- the elements that are shown of a list under this name, in order, and how many are left out after the hundredth
unfoldable pub with_shown : {A : Type 0} → (A → Data) → List ℕ → List ℕ → List A → Members → Members
with_shown data_of name left xs ms = put left (whole (left_out xs)) (put name (array (items data_of (all_shown xs))) ms)
