use Rattle.std.proofs.Common.{ap, sym, arith}
use Rattle.std.specs.Cow.{cow_slice_items}
use Rattle.std.proofs.lemmas.List.{nil_from_length}
use Rattle.std.proofs.lemmas.Bool.Decides.{nat_tests}
use Rattle.aud_rooms.proofs.Merged.{remove, removed_pass}
use Rattle.aud_rooms.proofs.merge.removed.Goals as goal

pub returns-then-is_empty : goal.returns-then-is_empty
returns-then-is_empty c =
    let one = cow_slice_items c.args.one in
    let none = nil_from_length c.args.other.now (grind (arith, nat_tests, c.is_empty.ensures, c.if-is_empty.true)) in
    removed_pass one c.args.other.now one (sym (ap (λ ns. remove ns one) none))
