use Rattle.std.proofs.Common.{◌∙◌, ap, sym, arith}
use Rattle.std.specs.Cow.{cow_slice_items}
use Rattle.std.proofs.lemmas.List.{nil_from_length}
use Rattle.aud_rooms.proofs.Merged.{merge, merge-none, merged_pass}
use Rattle.aud_rooms.proofs.merge.merged.Goals as goal

pub returns-then-len-eq0 : goal.returns-then-len-eq0
returns-then-len-eq0 c =
    let other = cow_slice_items c.args.other in
    let none = nil_from_length (cow_slice_items c.args.one) (omega (arith, c.len.ensures, c.if-len-eq0.true)) in
    merged_pass (cow_slice_items c.args.one) other other (sym (ap (λ ns. merge ns other) none))

pub returns-then-len-eq0-2 : goal.returns-then-len-eq0-2
returns-then-len-eq0-2 c =
    let one = cow_slice_items c.args.one in
    let none = nil_from_length (cow_slice_items c.args.other) (omega (arith, c.len-2.ensures, c.if-len-eq0-2.true)) in
    merged_pass one (cow_slice_items c.args.other) one (sym (ap (merge one) none ∙ merge-none one))
