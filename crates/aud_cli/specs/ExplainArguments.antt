-- What the words of `explain` ask for.
use Rattle.std.specs.Prelude.{ℕ, ◌≤◌, List, [], ◌∷◌, codes, Bool, true, false, not, ◌&&◌, ◌||◌, Option, Some, None, IfSome, is_some, option_map, option_and_then, unwrap_or, slice_get, if◌then◌else◌}
use Rattle.std.specs.Str.{bytes_eq}
use Rattle.aud_cli.specs.Arguments.{workers_named}
use Rattle.aud_cli.specs.declared.fail_on.FailOn.{FailOn}
use Rattle.aud_cli.specs.declared.only.Only.{Only}
use Rattle.aud_cli.specs.declared.only.Only.TheVariants.{With}
use Rattle.aud_cli.specs.declared.output_form.OutputForm.{OutputForm}
use Rattle.aud_cli.specs.declared.output_form.OutputForm.TheVariants.{Text, Json, Html}
use Rattle.aud_cli.specs.declared.explain_options.Choices.{Choices}
use Rattle.aud_cli.specs.declared.explain_options.ExplainOptions.{ExplainOptions}
use Rattle.aud_cli.specs.declared.explain_options.NamedRecord.{NamedRecord}
use Rattle.aud_cli.specs.FailOn.{every_class, fail_on_named}
use Rattle.aud_cli.specs.Given.{Given, Words, given_of, number_in, values_of}
use Rattle.aud_cli.specs.Once.{once, switched_on}
use Rattle.aud_cli.specs.Only.{only_named}

-- none of the options that may stand once
abbrev pub no_choices : Choices
no_choices =
    record { only = None; form = None; fail_on = None; whole = false; quiet = false; workers = None; lines = false; pids = false; records = false }

-- these options and the next one, where there is one of its name: each but --pid and --record may stand once, and of --json
-- and --html one. Files may stand any number of times. Sessions, records and what --lines names have places of their own
abbrev pub with_given : Choices → Given → Option Choices
with_given choices given =
    if bytes_eq given.name [] || bytes_eq given.name (codes "number") then Some choices
    else (if bytes_eq given.name (codes "--pid") then Some (record choices { pids = true })
    else (if bytes_eq given.name (codes "--record") then Some (record choices { records = true })
    else (if bytes_eq given.name (codes "--json") then option_map (λ form. record choices { form = Some form }) (once choices.form (Some Json))
    else (if bytes_eq given.name (codes "--html") then option_map (λ form. record choices { form = Some form }) (once choices.form (Some Html))
    else (if bytes_eq given.name (codes "--whole") then option_map (λ on. record choices { whole = on }) (switched_on choices.whole)
    else (if bytes_eq given.name (codes "--quiet") then option_map (λ on. record choices { quiet = on }) (switched_on choices.quiet)
    else (if bytes_eq given.name (codes "--only")
    then option_map (λ only. record choices { only = Some only }) (once choices.only (only_named given.value))
    else (if bytes_eq given.name (codes "--fail-on")
    then option_map (λ fail_on. record choices { fail_on = Some fail_on }) (once choices.fail_on (fail_on_named given.value))
    else (if bytes_eq given.name (codes "--workers")
    then option_map (λ workers. record choices { workers = Some workers }) (once choices.workers (workers_named given.value))
    else (if bytes_eq given.name (codes "--lines") then option_map (λ on. record choices { lines = on }) (switched_on choices.lines)
    else None))))))))))

-- these options and all that follow, in any order
abbrev pub choices_of : Choices → List Given → Option Choices
choices_of before [] = Some before
choices_of before (given ∷ all) = option_and_then (λ choices. choices_of choices all) (with_given before given)

-- --only shows tails
abbrev pub shows_tail : Option Only → Bool
shows_tail (Some (With faults)) = faults.tail
shows_tail only = false

-- --fail-on has tails by their word
abbrev pub fails_tail : Option FailOn → Bool
fails_tail None = false
fails_tail (Some fail_on) = fail_on.faults.tail

-- TAIL is named without --whole, which alone looks for it
abbrev pub lacks_whole : Choices → Bool
lacks_whole choices = not choices.whole && (shows_tail choices.only || fails_tail choices.fail_on)

-- the output is asked for as a page
abbrev pub is_page : Option OutputForm → Bool
is_page (Some Html) = true
is_page form = false

-- records are asked for by their numbers, and beside them what is of sessions alone
abbrev pub is_mixed : Choices → Bool
is_mixed choices = choices.records && (choices.pids || is_some choices.only || is_some choices.fail_on || choices.whole || is_page choices.form)

-- these options, where neither is so
abbrev pub understood : Choices → Option Choices
understood choices = if lacks_whole choices || is_mixed choices then None else Some choices

-- the records whose numbers are named: each number is of the tap of the --record before it. None where one of --record
-- has no number; `lacks` is whether the last has none yet
abbrev pub records_after : List ℕ → Bool → List Given → Option (List NamedRecord)
records_after tap lacks [] = if lacks then None else Some []
records_after tap lacks (given ∷ all) =
    if bytes_eq given.name (codes "number")
    then option_and_then (λ n. option_map (λ more. record { tap = tap; number = n } ∷ more) (records_after tap false all)) (number_in given.value)
    else (if lacks then None
    else (if bytes_eq given.name (codes "--record") then records_after given.value true all
    else records_after tap false all))

-- the same of all that is given
abbrev pub records_of : List Given → Option (List NamedRecord)
records_of all = records_after [] false all

-- what is asked for by these options: without --json and --html the output is text, without --fail-on any fault makes
-- status 1, and without --workers there are 4
abbrev pub options_of : List Given → Choices → List NamedRecord → ExplainOptions
options_of all choices records = record {
  pids = values_of (codes "--pid") all;
  only = choices.only;
  form = unwrap_or choices.form Text;
  fail_on = unwrap_or choices.fail_on every_class;
  whole = choices.whole;
  quiet = choices.quiet;
  workers = unwrap_or choices.workers 4;
  lines = slice_get (values_of (codes "--lines") all) 0;
  records = records;
  files = values_of [] all;
}

-- what is asked for by all that is given
abbrev pub asked_by : List Given → Option ExplainOptions
asked_by all =
    option_and_then (λ choices. option_map (options_of all choices) (records_of all)) (option_and_then understood (choices_of no_choices all))

-- what the words ask for, where they are understood: the first is explain
abbrev pub asked : Words → Option ExplainOptions
asked [] = None
asked (name ∷ words) =
    if bytes_eq name.now (codes "explain")
    then option_and_then asked_by (given_of words)
    else None

-- a number of workers that these options give is 1 to 64
abbrev pub AreWithin : Choices → Type 0
AreWithin choices = IfSome choices.workers (λ n. (1 ≤ n) × (n ≤ 64))
