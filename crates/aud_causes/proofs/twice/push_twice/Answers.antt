use Rattle.std.proofs.Common.{◌+◌, ◌++◌, ◌∙◌, Some, ap, append_assoc, drop, get_or, sym}
use Rattle.std.proofs.lemmas.List.{at_drop_more}
use Rattle.aud_causes.specs.Twice.{causes_of_twice, twice_by, twice_causes}
use Rattle.aud_causes.proofs.twice.push_twice.Goals as goal

pub loop-mark-preserved : goal.loop-mark-preserved
loop-mark-preserved c =
    let found = c.loop-mark.found.items in
    let before = c.loop-mark.before in
    let marks = c.args.marks.now in
    let i = c.loop-mark.mark-index in
    let begins = c.args.turns.now.begins.items in
    let ended = c.args.turns.now.ended.items in
    let often = c.args.as_often in
    let ended_are = c.as_slice-ended.ensures.value in
    let m = get_or marks i _ in
    let twice_is = c.twice_by.ensures ∙ ap (λ bs. twice_by bs before m) c.as_slice-begins.ensures.value in
    let rest = twice_causes begins ended often (Some m) (drop (i + 1) marks) in
    ap (λ xs. xs ++ rest) (c.in_ok-push_causes.ensures ∙ (λ j. found ++ causes_of_twice (ended_are j) often (twice_is j)))
    ∙ append_assoc found (causes_of_twice ended often (twice_by begins before m)) rest
    ∙ ap (λ xs. found ++ xs) (sym (at_drop_more (twice_causes begins ended often before) marks i _ c.loop-mark-test.true))
    ∙ c.loop-mark.invariant
