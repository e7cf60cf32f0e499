-- What the words of `split` ask for.
use Rattle.std.specs.Prelude.{ℕ, ◌≤◌, List, [], ◌∷◌, codes, Bool, false, ◌||◌, Option, Some, None, IfSome, option_map, option_and_then, unwrap_or, if◌then◌else◌}
use Rattle.std.specs.List.{list_any}
use Rattle.std.specs.Str.{bytes_eq}
use Rattle.aud_cli.specs.Arguments.{workers_named}
use Rattle.aud_cli.specs.declared.split_options.PartsWanted.{PartsWanted}
use Rattle.aud_cli.specs.declared.split_options.SplitChoices.{SplitChoices}
use Rattle.aud_cli.specs.declared.split_options.SplitOptions.{SplitOptions}
use Rattle.aud_cli.specs.Given.{Given, Words, given_of, values_of}
use Rattle.aud_cli.specs.Once.{once, switched_on}
use Rattle.aud_cli.specs.Sizes.{IsWithin, parts_named, size_named}

-- none of the options that may stand once
abbrev pub no_choices : SplitChoices
no_choices = record { parts = None; quiet = false; workers = None }

-- these options and the next one, where there is one of its name: each may stand once, and of --parts and --bytes one;
-- files and --into have their own places
abbrev pub with_given : SplitChoices → Given → Option SplitChoices
with_given choices given =
    if bytes_eq given.name [] || bytes_eq given.name (codes "--into") then Some choices
    else (if bytes_eq given.name (codes "--parts")
    then option_map (λ parts. record choices { parts = Some parts }) (once choices.parts (parts_named given.value))
    else (if bytes_eq given.name (codes "--bytes")
    then option_map (λ parts. record choices { parts = Some parts }) (once choices.parts (size_named given.value))
    else (if bytes_eq given.name (codes "--quiet") then option_map (λ on. record choices { quiet = on }) (switched_on choices.quiet)
    else (if bytes_eq given.name (codes "--workers")
    then option_map (λ workers. record choices { workers = Some workers }) (once choices.workers (workers_named given.value))
    else None))))

-- these options and all that follow, in any order
abbrev pub choices_of : SplitChoices → List Given → Option SplitChoices
choices_of before [] = Some before
choices_of before (given ∷ all) = option_and_then (λ choices. choices_of choices all) (with_given before given)

-- the only one of these texts
abbrev pub only_text : List (List ℕ) → Option (List ℕ)
only_text [] = None
only_text (text ∷ []) = Some text
only_text (text ∷ next ∷ texts) = None

-- whether one of these files is standard input
abbrev pub has_stdin : List (List ℕ) → Bool
has_stdin files = list_any (λ file. bytes_eq file (codes "-")) files

-- these files, where there are some, and none is standard input
abbrev pub files_to_split : List (List ℕ) → Option (List (List ℕ))
files_to_split [] = None
files_to_split (file ∷ files) = if has_stdin (file ∷ files) then None else Some (file ∷ files)

-- what is asked for with these options and parts, into these folders, of which there is to be one, and of these files;
-- without --workers there are 4
abbrev pub split_of : SplitChoices → PartsWanted → List (List ℕ) → List (List ℕ) → Option SplitOptions
split_of choices parts folders files =
    option_and_then
    (λ into. option_map
    (λ files. record { parts = parts; into = into; files = files; quiet = choices.quiet; workers = unwrap_or choices.workers 4 })
    (files_to_split files))
    (only_text folders)

-- what is asked for by these options: one of --parts and --bytes, and --into, have to stand there
abbrev pub options_of : List Given → SplitChoices → Option SplitOptions
options_of all choices =
    option_and_then
    (λ parts. split_of choices parts (values_of (codes "--into") all) (values_of [] all))
    choices.parts

-- what the words ask for, where they are understood: the first is split
abbrev pub asked : Words → Option SplitOptions
asked [] = None
asked (name ∷ words) =
    if bytes_eq name.now (codes "split")
    then option_and_then (λ all. option_and_then (options_of all) (choices_of no_choices all)) (given_of words)
    else None

-- a number of workers is 1 to 64
abbrev pub IsNumber : ℕ → Type 0
IsNumber n = (1 ≤ n) × (n ≤ 64)

-- a number of parts that these options give is 1 to 9999, and one of workers 1 to 64
abbrev pub AreWithin : SplitChoices → Type 0
AreWithin choices = IfSome choices.parts IsWithin × IfSome choices.workers IsNumber

-- the same of what is asked for
abbrev pub IsWithinAll : SplitOptions → Type 0
IsWithinAll options = IsWithin options.parts × IsNumber options.workers
