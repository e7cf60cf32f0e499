-- Where the fault shows at one of the rows, it shows at one of those that are shown.
use Rattle.std.proofs.Common.{◌≡◌, ◌||◌, ◌+◌, ◌-◌, ◌++◌, ◌∷◌, [], ℕ, Bool, true, false, List, Some, cond, drop, find, length, option_to_list, take, refl, sym, ap, ◌∙◌}
use Rattle.std.specs.List.{list_any}
use Rattle.std.proofs.lemmas.List.{drop-drop, take-append-drop}
use Rattle.std.proofs.lemmas.List.Folds.{list_any-append}
use Rattle.aud_rows.specs.declared.row.Row.{Row}
use Rattle.aud_explanation.specs.Long.{first_shown, last_shown, left_out}
use Rattle.aud_explanation.specs.LongRows.{is_earlier_row, is_fault_row, kept_rows, rows_between, rows_shown}

-- of elements of which some pass, the first passes
found_passes : {A : Type 0} (p : A → Bool) (xs : List A) → list_any p xs ≡ list_any p (option_to_list (find p xs))
found_passes p [] = refl
found_passes p (x ∷ xs) = go (p x) refl (found_passes p xs)
  where
    go : (b : Bool) → p x ≡ b → list_any p xs ≡ list_any p (option_to_list (find p xs)) → (b || list_any p xs) ≡ list_any p (option_to_list (cond b (Some x) (find p xs)))
    go true is rest = sym (ap (λ t. t || false) is)
    go false is rest = rest

-- ---- the three parts of the rows

-- those that aren't the first 100 are those between and the last
parts : {A : Type 0} (n : ℕ) (xs : List A) → xs ≡ take 100 xs ++ (take n (drop 100 xs) ++ drop (100 + n) xs)
parts n xs = sym (take-append-drop 100 xs) ∙ ap (λ ys. take 100 xs ++ ys) (sym (take-append-drop n (drop 100 xs)) ∙ ap (λ ys. take n (drop 100 xs) ++ ys) (drop-drop n 100 xs))

either : (a b k c : Bool) → (b ≡ true → k ≡ true) → (a || (b || c)) ≡ true → ((a || k) || c) ≡ true
either true b k c keeps any = refl
either false true k c keeps any = ap (λ t. t || c) (keeps refl)
either false false true c keeps any = refl
either false false false c keeps any = any

kept_shows : (rows : List Row) → list_any is_fault_row (rows_between rows) ≡ true → list_any is_fault_row (kept_rows rows) ≡ true
unfolding kept_rows
kept_shows rows any =
    let found : list_any is_fault_row (option_to_list (find is_fault_row (rows_between rows))) ≡ true = sym (found_passes is_fault_row (rows_between rows)) ∙ any in
    list_any-append is_fault_row (option_to_list (find is_earlier_row (rows_between rows))) (option_to_list (find is_fault_row (rows_between rows)))
    ∙ ap (λ t. list_any is_fault_row (option_to_list (find is_earlier_row (rows_between rows))) || t) found
    ∙ or_true (list_any is_fault_row (option_to_list (find is_earlier_row (rows_between rows))))
  where
    or_true : (b : Bool) → (b || true) ≡ true
    or_true true = refl
    or_true false = refl

pub fault_row_shown : (rows : List Row) → list_any is_fault_row rows ≡ true → list_any is_fault_row (rows_shown rows) ≡ true
unfolding rows_shown rows_between first_shown last_shown left_out
fault_row_shown rows any =
    let n : ℕ = length rows - 200 in
    let first : List Row = take 100 rows in
    let between : List Row = take n (drop 100 rows) in
    let last : List Row = drop (100 + n) rows in
    let split : list_any is_fault_row rows ≡ (list_any is_fault_row first || (list_any is_fault_row between || list_any is_fault_row last)) =
    ap (list_any is_fault_row) (parts n rows)
    ∙ list_any-append is_fault_row first (between ++ last)
    ∙ ap (λ t. list_any is_fault_row first || t) (list_any-append is_fault_row between last) in
    list_any-append is_fault_row (first ++ kept_rows rows) last
    ∙ ap (λ t. t || list_any is_fault_row last) (list_any-append is_fault_row first (kept_rows rows))
    ∙ either (list_any is_fault_row first) (list_any is_fault_row between) (list_any is_fault_row (kept_rows rows)) (list_any is_fault_row last) (kept_shows rows) (sym split ∙ any)
