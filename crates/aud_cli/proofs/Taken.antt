-- The options of a mode, one after another.
use Rattle.std.proofs.Common.{◌≡◌, ℕ, Bool, List, [], ◌∷◌, true, false, Option, Some, None, drop, map, option_map, option_and_then, refl}
use Rattle.aud_cli.specs.declared.choice.Mode.{Mode}
use Rattle.aud_cli.specs.declared.choice.ModeOptions.{ModeOptions}
use Rattle.aud_cli.specs.Given.{Given, Words, file, given_from, takes_number}
use Rattle.aud_cli.specs.Arguments.{options_over, with_given}
use Rattle.aud_cli.specs.Private.Steps.{is_end, next_given}
use Rattle.aud_cli.proofs.Steps.{ended, given_first}

-- what is left after this, beside options that are there
abbrev pub options_left : Mode → Option (List Given) → ModeOptions → Option ModeOptions
options_left mode rest options = option_and_then (options_over mode options) rest

-- where nothing is left, there are no options
nothing : (mode : Mode) (found : Option ModeOptions) → None ≡ option_and_then (options_left mode None) found
nothing mode None = refl
nothing mode (Some options) = refl

-- what is given first counts before what is left
first : (mode : Mode) (before : ModeOptions) (given : Given) (rest : Option (List Given))
    → options_left mode (option_map (λ more. given ∷ more) rest) before ≡ option_and_then (options_left mode rest) (with_given mode before given)
first mode before given None = nothing mode (with_given mode before given)
first mode before given (Some all) = refl

-- what stands first counts before what is after it
pub taken : (mode : Mode) (before : ModeOptions) (may_be : Bool) (words : Words) (given : Given) (count : ℕ)
    → is_end words ≡ false → next_given may_be words ≡ Some (given, count)
    → options_left mode (given_from may_be words) before
    ≡ option_and_then (options_left mode (given_from (takes_number given) (drop count words))) (with_given mode before given)
taken mode before may_be words given count more next =
    rw (given_first may_be words given count more next) (first mode before given (given_from (takes_number given) (drop count words)))

-- files change no options
files_change_none : (mode : Mode) (options : ModeOptions) (words : Words) → options_over mode options (map (λ w. file w.now) words) ≡ Some options
files_change_none mode options [] = refl
files_change_none mode options (word ∷ words) = files_change_none mode options words

-- at the end there are the options so far
pub over : (mode : Mode) (options : ModeOptions) (may_be : Bool) (words : Words) → is_end words ≡ true
    → options_left mode (given_from may_be words) options ≡ Some options
over mode options may_be words is = rw (ended may_be words is) (files_change_none mode options (drop 1 words))
