-- Names that stand once.
use Rattle.std.proofs.Common.{◌≡◌, ℕ, ◌+◌, ◌-◌, ◌<◌, List, ◌∷◌, length, get_or, take, drop, true, false, ap, sym, ◌∙◌, add-one}
use Rattle.std.specs.Prelude.{not, ◌&&◌}
use Rattle.std.specs.List.{list_any, list_all}
use Rattle.std.proofs.lemmas.List.Folds.{list_all-map}
use Rattle.aud_tap.specs.TapName.{is_tap_name}
use Rattle.std.specs.Str.{bytes_eq}
use Rattle.std.specs.Borrow.{Bor}
use Rattle.std.proofs.Math.Seq.{drop-cons}
use Rattle.std.proofs.lemmas.List.{take_rest, length-map}
use Rattle.aud_base.proofs.Lists.{any-map}
use Rattle.aud_book.specs.History.{texts}
use Rattle.aud_book.specs.Names.{stand_once}

abbrev Name : Type 0
Name = Bor (List ℕ)

-- there are as many texts as borrowed texts
pub text_count : (names : List Name) → length (texts names) ≡ length names
text_count names = length-map names (λ (n : Name). n.now)

-- borrowed texts are names of taps where the texts are
pub tap_names : (names : List Name) → list_all is_tap_name (texts names) ≡ list_all (λ (name : Name). is_tap_name name.now) names
tap_names names = list_all-map is_tap_name (λ (n : Name). n.now) names

-- whether the names from an index on stand once, by the name there and those after it
from-index : (names : List Name) (i : ℕ) (d : Name) → i < length names
    → stand_once (texts (drop i names)) ≡ (not (list_any (λ (other : Name). bytes_eq other.now (get_or names i d).now) (take (length names - (i + 1)) (drop (i + 1) names))) && stand_once (texts (drop (i + 1) names)))
from-index names i d h =
    let name = get_or names i d in
    let rest = drop (i + 1) names in
    let here : drop i names ≡ name ∷ rest = drop-cons names i d h ∙ ap (λ k. name ∷ drop k names) (sym (add-one i)) in
    let any : list_any (λ other. bytes_eq other name.now) (texts rest) ≡ list_any (λ (other : Name). bytes_eq other.now name.now) (take (length names - (i + 1)) rest) =
    any-map (λ other. bytes_eq other name.now) (λ (l : Name). l.now) rest ∙ ap (list_any (λ (other : Name). bytes_eq other.now name.now)) (sym (take_rest names (i + 1))) in
    ap (λ ns. stand_once (texts ns)) here ∙ ap (λ b. not b && stand_once (texts rest)) any

-- a name that stands again
pub stands-again : (names : List Name) (i : ℕ) (d : Name) → i < length names → stand_once (texts names) ≡ stand_once (texts (drop i names))
    → list_any (λ (other : Name). bytes_eq other.now (get_or names i d).now) (take (length names - (i + 1)) (drop (i + 1) names)) ≡ true → false ≡ stand_once (texts names)
stands-again names i d h so is = sym (so ∙ from-index names i d h ∙ ap (λ b. not b && stand_once (texts (drop (i + 1) names))) is)

-- a name that doesn't stand again
pub stands-once : (names : List Name) (i : ℕ) (d : Name) → i < length names → stand_once (texts names) ≡ stand_once (texts (drop i names))
    → list_any (λ (other : Name). bytes_eq other.now (get_or names i d).now) (take (length names - (i + 1)) (drop (i + 1) names)) ≡ false → stand_once (texts names) ≡ stand_once (texts (drop (i + 1) names))
stands-once names i d h so is = so ∙ from-index names i d h ∙ ap (λ b. not b && stand_once (texts (drop (i + 1) names))) is
