use Rattle.std.proofs.Common.{◌≡◌, ◌∙◌, ap, sym, drop, [], ◌++◌}
use Rattle.std.proofs.lemmas.List.{drop_all}
use Rattle.aud_rooms.proofs.Merged.{merge, merged_pass}
use Rattle.aud_rooms.proofs.merge.both.Goals as goal

pub returns : goal.returns
returns c =
    let over : drop c.loop-number.number-index c.args.one.now ≡ [] = drop_all c.loop-number.number-index c.args.one.now c.loop-number-test.false in
    merged_pass c.args.one.now c.args.other.now _
    (c.in_ok-extend_from_slice-2.ensures.items
    ∙ ap (λ ns. c.loop-number.all.items ++ merge ns c.loop-number.rest.now) (sym over)
    ∙ c.loop-number.invariant)
