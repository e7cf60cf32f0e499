-- What the words of the command line ask for.
use Rattle.std.specs.Prelude.{◌≡◌, ℕ, ◌≤◌, List, [], ◌∷◌, codes, Bool, true, false, not, Option, Some, None, IfSome, option_map, option_and_then, unwrap_or, if◌then◌else◌}
use Rattle.std.specs.List.{list_any}
use Rattle.std.specs.Str.{bytes_eq}
use Rattle.aud_cli.specs.declared.choice.Mode.{Mode}
use Rattle.aud_cli.specs.declared.choice.Mode.TheVariants.{Audit, Prove, Verify, Order, Upgrade}
use Rattle.aud_cli.specs.declared.choice.Options.{Options}
use Rattle.aud_cli.specs.declared.choice.ModeOptions.{ModeOptions}
use Rattle.aud_cli.specs.Given.{Given, Words, given_of, values_of}
use Rattle.aud_cli.specs.Once.{once, switched_on}
use Rattle.aud_cli.specs.Sizes.{number_named}

-- the mode of this name
abbrev pub mode_named : List ℕ → Option Mode
mode_named name =
    if bytes_eq name (codes "audit") then Some Audit
    else (if bytes_eq name (codes "prove") then Some Prove
    else (if bytes_eq name (codes "verify") then Some Verify
    else (if bytes_eq name (codes "order") then Some Order
    else (if bytes_eq name (codes "upgrade") then Some Upgrade else None))))

-- the mode that the words ask for: the first of them names it
abbrev pub mode_of : Words → Option Mode
mode_of [] = None
mode_of (word ∷ words) = mode_named word.now

-- the workers of this text: decimal digits, and a plus may stand before them
abbrev pub workers_named : List ℕ → Option ℕ
workers_named text = number_named 1 64 text

-- no option
abbrev pub no_options : ModeOptions
no_options = record { workers = None; whole = false; quiet = false }

-- whether the mode is an audit, which alone has `--workers` and `--whole`
abbrev pub is_audit : Mode → Bool
is_audit Audit = true
is_audit mode = false

-- these options and the next one, where the mode has one of its name: each may stand once. Files may stand any number of
-- times
abbrev pub with_given : Mode → ModeOptions → Given → Option ModeOptions
with_given mode options given =
    if bytes_eq given.name [] then Some options
    else (if bytes_eq given.name (codes "--quiet") then option_map (λ on. record options { quiet = on }) (switched_on options.quiet)
    else (if not (is_audit mode) then None
    else (if bytes_eq given.name (codes "--whole") then option_map (λ on. record options { whole = on }) (switched_on options.whole)
    else (if bytes_eq given.name (codes "--workers")
    then option_map (λ workers. record options { workers = Some workers }) (once options.workers (workers_named given.value))
    else None))))

-- these options and all that follow, in any order
abbrev pub options_over : Mode → ModeOptions → List Given → Option ModeOptions
options_over mode before [] = Some before
options_over mode before (given ∷ all) = option_and_then (λ options. options_over mode options all) (with_given mode before given)

-- the options that the words after the mode's name give
abbrev pub options_given : Mode → Words → Option ModeOptions
options_given mode words = option_and_then (options_over mode no_options) (given_of words)

-- what is asked of the mode with these options: 4 workers where they give no number
abbrev pub options_of : Mode → ModeOptions → Options
options_of mode options = record { mode = mode; workers = unwrap_or options.workers 4; whole = options.whole }

-- what the words ask for, where they are understood
abbrev pub asked : Words → Option Options
asked [] = None
asked (name ∷ words) = option_and_then (λ mode. option_map (options_of mode) (options_given mode words)) (mode_named name.now)

-- the options and files after the mode's name; none where the words give none
abbrev pub given_in : Words → List Given
given_in [] = []
given_in (name ∷ words) = unwrap_or (given_of words) []

-- the files that the words name
abbrev pub files_named : Words → List (List ℕ)
files_named words = values_of [] (given_in words)

-- whether --quiet stands among the words
abbrev pub has_quiet : Words → Bool
has_quiet words = list_any (λ given. bytes_eq given.name (codes "--quiet")) (given_in words)

-- a number of workers that these options give is 1 to 64, and the whole is asked of an audit alone
abbrev pub AreWithin : Mode → ModeOptions → Type 0
AreWithin mode options = IfSome options.workers (λ n. (1 ≤ n) × (n ≤ 64)) × (options.whole ≡ true → mode ≡ Audit)
