-- What the words of `merge` ask for.
use Rattle.std.specs.Prelude.{ℕ, List, [], ◌∷◌, codes, Bool, Option, Some, None, option_and_then, if◌then◌else◌}
use Rattle.std.specs.List.{list_all}
use Rattle.std.specs.Str.{bytes_eq}
use Rattle.aud_cli.specs.declared.merge_options.MergeOptions.{MergeOptions}
use Rattle.aud_cli.specs.Given.{Given, Words, given_of, values_of}

-- whether all of these are files
abbrev pub are_files : List Given → Bool
are_files all = list_all (λ given. bytes_eq given.name []) all

-- the first file is the folder, and the others are reports, of which there is one at least
abbrev pub merge_of : List (List ℕ) → Option MergeOptions
merge_of [] = None
merge_of (folder ∷ []) = None
merge_of (folder ∷ report ∷ reports) = Some (record { folder = folder; reports = report ∷ reports })

-- what is asked for by all that is given: no options
abbrev pub options_of : List Given → Option MergeOptions
options_of all = if are_files all then merge_of (values_of [] all) else None

-- what the words ask for, where they are understood: the first is merge
abbrev pub asked : Words → Option MergeOptions
asked [] = None
asked (name ∷ words) = if bytes_eq name.now (codes "merge") then option_and_then options_of (given_of words) else None
