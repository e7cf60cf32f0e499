use Rattle.std.proofs.Common.{[], ◌∷◌, ap, ◌∙◌, arith, Some, None, option_copied}
use Rattle.std.specs.Option.{option_and_then}
use Rattle.aud_node.specs.Private.KnownIndex.{after_last, ending}
use Rattle.aud_node.proofs.EndingLemmas.{after_last-rsplit, without_end-strip}
use Rattle.aud_node.proofs.known.ending.Goals as goal

pub returns-in_err-front : goal.returns-in_err-front
unfolding ending
returns-in_err-front c =
    let none = without_end-strip (34 ∷ 93 ∷ []) c.args.text.now None c.in_err-front.ensures.cases in
    ap option_copied c.from_residual.ensures ∙ ap (option_and_then (after_last 34)) none

pub returns-in_err-last : goal.returns-in_err-last
unfolding ending
returns-in_err-last c =
    let front = without_end-strip (34 ∷ 93 ∷ []) c.args.text.now (Some c.in_ok-front.front) c.in_ok-front.ensures.cases in
    let none = after_last-rsplit 34 c.in_ok-front.front.now None c.in_err-last.ensures.cases (omega arith) in
    ap option_copied c.from_residual-in_err-last.ensures ∙ none ∙ ap (option_and_then (after_last 34)) front

pub returns : goal.returns
unfolding ending
returns c =
    let front = without_end-strip (34 ∷ 93 ∷ []) c.args.text.now (Some c.in_ok-front.front) c.in_ok-front.ensures.cases in
    let last = after_last-rsplit 34 c.in_ok-front.front.now (Some (c.in_ok-last.field-0-0, c.in_ok-last.last)) c.in_ok-last.ensures.cases (omega arith) in
    last ∙ ap (option_and_then (after_last 34)) front
