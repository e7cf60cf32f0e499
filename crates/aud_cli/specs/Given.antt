-- The words as options and files.
use Rattle.std.specs.Prelude.{ℕ, ◌-◌, ◌^◌, List, [], ◌∷◌, map, filter, codes, slice_index, Bool, false, not, ◌||◌, ◌&&◌, ◌==◌, Option, Some, None, is_some, option_map, if◌then◌else◌}
use Rattle.std.specs.List.{before_first, after_first, list_any}
use Rattle.std.specs.Str.{bytes_eq}
use Rattle.std.specs.Borrow.{Bor}
use Rattle.aud_cli.specs.Sizes.{number_named}

-- words, as a command line has them
abbrev pub Words : Type 0
Words = List (Bor (List ℕ))

-- an option, by its name with the dashes, and its value, which is empty where it has none; the number of a record, whose
-- name is `number`; or a file, without a name
pub record Given : Type 0 where
  pub name : List ℕ
  pub value : List ℕ

-- whether an option of this name has a value
abbrev pub takes_value : List ℕ → Bool
takes_value name =
    bytes_eq name (codes "--pid") || bytes_eq name (codes "--only") || bytes_eq name (codes "--fail-on") || bytes_eq name (codes "--workers")
    || bytes_eq name (codes "--record") || bytes_eq name (codes "--parts") || bytes_eq name (codes "--bytes") || bytes_eq name (codes "--into") || bytes_eq name (codes "--lines")

-- whether the word is a file: a dash alone, which is standard input, or what begins with none
abbrev pub is_file : List ℕ → Bool
is_file word = bytes_eq word (codes "-") || not (slice_index word 0 == 45)

-- this file
abbrev pub file : List ℕ → Given
file word = record { name = []; value = word }

-- whether this is an equals sign
abbrev pub is_equals : ℕ → Bool
is_equals b = b == 61

-- whether a value is joined to the option
abbrev pub is_joined : List ℕ → Bool
is_joined word = list_any is_equals word && takes_value (before_first is_equals word)

-- what a word gives by itself: a file, an option with its value after the first equals sign, or an option without one
abbrev pub alone : List ℕ → Given
alone word =
    if is_file word then file word
    else (if is_joined word then record { name = before_first is_equals word; value = after_first is_equals word }
    else record { name = word; value = [] })

-- the number of a record that this word is, where it is one
abbrev pub number_in : List ℕ → Option ℕ
number_in word = number_named 0 (2 ^ 64 - 1) word

-- whether the number of a record may stand after this: --record has its tap, and after that any number of them
abbrev pub takes_number : Given → Bool
takes_number given = bytes_eq given.name (codes "--record") || bytes_eq given.name (codes "number")

-- what a word gives by itself, where a number may stand there, or none may
abbrev pub alone_or_number : Bool → List ℕ → Given
alone_or_number may_be word =
    if may_be && is_some (number_in word) then record { name = codes "number"; value = word } else alone word

-- what the words give, where the first may be a number, or may not
abbrev pub given_from : Bool → Words → Option (List Given)
given_from may_be [] = Some []
given_from may_be (word ∷ []) =
    if bytes_eq word.now (codes "--") then Some []
    else (if takes_value word.now then None else Some (alone_or_number may_be word.now ∷ []))
given_from may_be (word ∷ next ∷ words) =
    if bytes_eq word.now (codes "--") then Some (map (λ w. file w.now) (next ∷ words))
    else (if takes_value word.now
    then (let given : Given = record { name = word.now; value = next.now } in option_map (λ more. given ∷ more) (given_from (takes_number given) words))
    else (let given = alone_or_number may_be word.now in option_map (λ more. given ∷ more) (given_from (takes_number given) (next ∷ words))))

-- what the words give: an option that takes a value has it joined, or the next word is its value, whichever it is;
-- numbers that come right after the tap of --record are of its records; after -- each word is a file. None where a value
-- is missing
abbrev pub given_of : Words → Option (List Given)
given_of words = given_from false words

-- the values of the option of this name, in their order; without a name the files
abbrev pub values_of : List ℕ → List Given → List (List ℕ)
values_of name all = map (λ g. g.value) (filter (λ g. bytes_eq g.name name) all)
