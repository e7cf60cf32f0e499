use Rattle.std.proofs.Common.{rules, ◌≡◌, ◌++◌, ℕ, List, map, option_to_list, length, false, [], ◌∷◌, arith, refl}
use Rattle.std.specs.List.{list_any, position_or_len}
use Rattle.aud_causes.specs.Filled.{figure_text, filled, is_place}
use Rattle.aud_causes.proofs.why.push_next.Goals as goal

-- where no byte is a `#`, there is no place
none_placed : (words : List ℕ) → position_or_len is_place words ≡ length words → list_any is_place words ≡ false
none_placed [] none = refl
none_placed (b ∷ words) none = grind (arith, none_placed words)

-- and the words stay as they are
unplaced : (words : List ℕ) (texts : List (List ℕ)) → list_any is_place words ≡ false → filled words texts ≡ words
unplaced words [] none = refl
unplaced words (text ∷ texts) none = rw none refl

pub returns-in_default-split_once : goal.returns-in_default-split_once
returns-in_default-split_once c =
    let words = c.args.words.now in
    let none : list_any is_place words ≡ false = none_placed words (search rules) in
    λ texts. rw (unplaced words texts none) (rw (unplaced words (map (figure_text c.args.logs.now) (option_to_list c.args.figure) ++ texts) none) refl)
