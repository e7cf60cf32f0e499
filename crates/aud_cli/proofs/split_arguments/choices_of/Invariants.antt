use Rattle.std.proofs.Common.{◌≡◌, drop}
use Rattle.aud_cli.specs.SplitArguments.{AreWithin, choices_of, no_choices}
use Rattle.aud_cli.proofs.split_arguments.choices_of.Given as goal

-- the options so far, with those that are left, are those of all
abbrev pub invariant-all : goal.invariant-all
invariant-all l = (choices_of l.choices (drop l.given-index l.all) ≡ choices_of no_choices l.all) × AreWithin l.choices
