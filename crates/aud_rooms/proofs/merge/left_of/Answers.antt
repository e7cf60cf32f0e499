use Rattle.std.proofs.Common.{◌≡◌, ◌∙◌, ap, sym, drop, [], ◌++◌}
use Rattle.std.proofs.lemmas.List.{drop_all}
use Rattle.aud_rooms.proofs.Merged.{remove, removed_pass}
use Rattle.aud_rooms.proofs.merge.left_of.Goals as goal

pub returns : goal.returns
returns c =
    let over : drop c.loop-number.number-index c.args.other.now ≡ [] = drop_all c.loop-number.number-index c.args.other.now c.loop-number-test.false in
    removed_pass c.args.one.now c.args.other.now _
    (c.in_ok-extend_from_slice-2.ensures.items
    ∙ ap (λ ns. c.loop-number.left.items ++ remove ns c.loop-number.rest.now) (sym over)
    ∙ c.loop-number.invariant)
