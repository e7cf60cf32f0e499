use Rattle.std.proofs.Common.{◌≡◌, ◌≤◌, ◌-◌, length, drop}
use Rattle.aud_cli.specs.Given.{given_from}
use Rattle.aud_cli.specs.Arguments.{AreWithin, options_given}
use Rattle.aud_cli.proofs.Taken.{options_left}
use Rattle.aud_cli.proofs.arguments.options_given.Given as goal

-- what the words that are left give, beside the options so far, is what all give
abbrev pub invariant-words : goal.invariant-words
invariant-words l =
    (l.at ≤ length l.words)
    × (options_left l.mode (given_from l.may_be (drop l.at l.words)) l.options ≡ options_given l.mode l.words)
    × AreWithin l.mode l.options

-- there are fewer words each time
abbrev pub decreases-words : goal.decreases-words
decreases-words l = length l.words - l.at
