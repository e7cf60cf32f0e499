use Rattle.std.proofs.Common.{◌≡◌, ◌++◌, drop, option_map}
use denote.Shadow.{shadow}
use denote.Text.{Utf8}
use Rattle.aud_cli.specs.ExplainArguments.{records_after, records_of}
use Rattle.aud_cli.proofs.explain_arguments.records_of.Given as goal

-- the records so far, with those that are left, are those of all; and the last tap's name is text
abbrev pub invariant-all : goal.invariant-all
invariant-all l =
    shadow (Utf8 l.tap)
    × (option_map (λ more. l.records.items ++ more) (records_after l.tap l.lacks (drop l.given-index l.all)) ≡ records_of l.all)
