use Rattle.std.proofs.Common.{rules, ◌≡◌, ◌≤◌, ◌+◌, true, false, Some, None, drop, length, sym, ◌∙◌, arith}
use Rattle.std.proofs.lemmas.List.{drop-drop, length-drop}
use Rattle.aud_cli.specs.Arguments.{options_given, with_given}
use Rattle.aud_cli.specs.Private.Steps.{is_end, next_given}
use Rattle.aud_cli.proofs.Taken.{over, taken}
use Rattle.aud_cli.proofs.arguments.options_given.Goals as goal

pub returns-in_err-options-clause-options : goal.returns-in_err-options-clause-options
returns-in_err-options-clause-options c =
    let words = c.args.words.now in
    let at = c.words.at in
    let more : is_end (drop at words) ≡ false = search rules in
    let next : next_given c.words.may_be (drop at words) ≡ Some (c.in_ok-given.given, c.in_ok-given.count) = search rules in
    let none : with_given c.args.mode c.words.options c.in_ok-given.given ≡ None = search rules in
    let left = taken c.args.mode c.words.options c.words.may_be (drop at words) c.in_ok-given.given c.in_ok-given.count more next in
    let gone : options_given c.args.mode words ≡ None = sym c.words.invariant.1 ∙ (rw none at left) in
    rw gone (search rules)

pub words-preserved : goal.words-preserved
words-preserved c =
    let words = c.args.words.now in
    let at = c.words.at in
    let count = c.in_ok-given.count in
    let more : is_end (drop at words) ≡ false = search rules in
    let next : next_given c.words.may_be (drop at words) ≡ Some (c.in_ok-given.given, count) = search rules in
    let some : with_given c.args.mode c.words.options c.in_ok-given.given ≡ Some c.in_ok-options.options = search rules in
    let within : count ≤ length (drop at words) = search rules in
    let fits : at + count ≤ length words = omega (arith, length-drop at words) in
    let left = taken c.args.mode c.words.options c.words.may_be (drop at words) c.in_ok-given.given count more next in
    let now = rw (some, drop-drop count at words) at left in
    (fits, rw c.takes_number-may_be.ensures (sym now ∙ c.words.invariant.1), search rules)

pub returns-clause-options : goal.returns-clause-options
returns-clause-options c =
    let words = c.args.words.now in
    let is : is_end (drop c.words.at words) ≡ true = search rules in
    sym (over c.args.mode c.words.options c.words.may_be (drop c.words.at words) is) ∙ c.words.invariant.1
