use Rattle.std.proofs.Common.{◌≡◌, ◌≤◌, ◌-◌, ◌++◌, length, drop, option_map}
use Rattle.aud_cli.specs.Given.{given_from, given_of}
use Rattle.aud_cli.proofs.given.given_of.Given as goal

-- what is found so far, with what the words that are left give, is all
abbrev pub invariant-words : goal.invariant-words
invariant-words l =
    (l.at ≤ length l.words) × (option_map (λ more. l.found.items ++ more) (given_from l.may_be (drop l.at l.words)) ≡ given_of l.words)

-- there are fewer words each time
abbrev pub decreases-words : goal.decreases-words
decreases-words l = length l.words - l.at
