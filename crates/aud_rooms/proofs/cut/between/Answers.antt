use Rattle.std.proofs.Common.{ap, sym, subst, ◌∙◌, not, nat_lt, filter, arith}
use Rattle.std.specs.List.Sorted.{IsNonDecreasing}
use Rattle.std.proofs.lemmas.Bool.Decides.{nat_tests}
use Rattle.std.proofs.lemmas.List.Kept.{IsNonDecreasingBy-filter}
use Rattle.aud_rooms.specs.TurnPlaces.{is_between}
use Rattle.aud_rooms.proofs.Parts.{filter_twice}
use Rattle.aud_rooms.proofs.cut.between.Goals as goal

pub cut_before-requires-2 : goal.cut_before-requires-2
cut_before-requires-2 c = subst IsNonDecreasing (sym c.cut_before.ensures.above) (IsNonDecreasingBy-filter (λ n. n) (λ n. not (nat_lt n c.args.from)) c.args.numbers.now c.requires)

pub returns : goal.returns
returns c =
    c.cut_before-2.ensures.below ∙ ap (filter (λ n. nat_lt n c.args.to)) c.cut_before.ensures.above
    ∙ filter_twice (λ n. nat_lt n c.args.to) (λ n. not (nat_lt n c.args.from)) (is_between c.args.from c.args.to) (λ n. grind (arith, nat_tests)) c.args.numbers.now
