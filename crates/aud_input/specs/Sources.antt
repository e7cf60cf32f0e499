-- Files that are read one after the other, as one input.
use Rattle.std.specs.Prelude.{◌≡◌, ℕ, ◌==◌, List, [], ◌∷◌, ◌++◌, map, Bool, false, not, Option, Some, None, option_map, if◌then◌else◌}
use Rattle.std.specs.List.{flat_map}
use Rattle.aud_reader.specs.Lines.{line_pieces}
use Rattle.aud_input.specs.declared.sources.Sources.{Sources}

-- ---- the joined bytes

-- what comes after these bytes stands on a line that has begun
abbrev pub is_begun : Bool → List ℕ → Bool
is_begun begun [] = begun
is_begun begun (b ∷ bytes) = is_begun (not (b == 10)) bytes

-- bytes whose last line is ended
abbrev pub ended : Bool → List ℕ → List ℕ
ended begun bytes = bytes ++ (if is_begun begun bytes then 10 ∷ [] else [])

-- files as one input: of each but the last the last line is ended, and of the first a line may have begun
abbrev pub joined_after : Bool → List (List ℕ) → List ℕ
joined_after begun [] = []
joined_after begun (file ∷ []) = file
joined_after begun (file ∷ next ∷ files) = ended begun file ++ joined_after false (next ∷ files)

-- files as one input
abbrev pub joined : List (List ℕ) → List ℕ
joined files = joined_after false files

-- the lines of the joined files are those of the files, one file's after the other's
abbrev pub LinesAreThoseOfFiles : Type 0
LinesAreThoseOfFiles = (files : List (List ℕ)) → line_pieces (joined files) ≡ flat_map line_pieces files

-- ---- what is left of them

-- the bytes of each file, where those of all are known
abbrev pub all_known : List (Option (List ℕ)) → Option (List (List ℕ))
all_known [] = Some []
all_known (None ∷ files) = None
all_known (Some bytes ∷ files) = option_map (λ others. bytes ∷ others) (all_known files)

-- what is left of a file that is read and of those that wait
abbrev pub left_of : Bool → Option (List ℕ) → List (Option (List ℕ)) → Option (List ℕ)
left_of begun current waiting = option_map (joined_after begun) (all_known (current ∷ waiting))

-- what is left of the files, by what is left of each
abbrev pub left_in : {R : Type 0} → (R → Option (List ℕ)) → Sources R → Option (List ℕ)
left_in remaining s = left_of s.begun (remaining s.current) (map remaining s.waiting.items)
