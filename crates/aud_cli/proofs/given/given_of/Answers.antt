use Rattle.std.proofs.Common.{rules, ◌≡◌, ◌++◌, ◌+◌, ◌≤◌, true, false, Some, None, drop, length, map, arith}
use Rattle.std.proofs.lemmas.List.{length-drop}
use Rattle.aud_cli.specs.Given.{given_of, file}
use Rattle.aud_cli.specs.Private.Steps.{is_end, next_given}
use Rattle.aud_cli.proofs.Steps.{refused, step, whole}
use Rattle.aud_cli.proofs.given.given_of.Goals as goal

pub returns-in_default : goal.returns-in_default
returns-in_default c =
    let words = c.args.words.now in
    let more : is_end (drop c.words.at words) ≡ false = search rules in
    let none : next_given c.words.may_be (drop c.words.at words) ≡ None = search rules in
    rw (refused c.words.may_be (drop c.words.at words) more none) at c.words.invariant.1

pub words-preserved : goal.words-preserved
words-preserved c =
    let words = c.args.words.now in
    let at = c.words.at in
    let more : is_end (drop at words) ≡ false = search rules in
    let next : next_given c.words.may_be (drop at words) ≡ Some (c.in-Some.given, c.in-Some.count) = search rules in
    let fits : at + c.in-Some.count ≤ length words =
    let count : c.in-Some.count ≤ length (drop at words) = search rules in
    omega (arith, length-drop at words)
    in
    (fits, rw (c.takes_number-may_be.ensures, c.in_ok-push.ensures.items) (step c.words.may_be words at c.in-Some.count c.words.found.items c.in-Some.given (given_of words) c.words.invariant.1 more next))

pub returns : goal.returns
returns c =
    let words = c.args.words.now in
    let at = c.words.at in
    let is : is_end (drop at words) ≡ true = search rules in
    let files : c.push_files.new.found.items ≡ c.words.found.items ++ map (λ w. file w.now) (drop 1 (drop at words)) = search rules in
    rw files (whole c.words.may_be words at c.words.found.items (given_of words) c.words.invariant.1 is)
