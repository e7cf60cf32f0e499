use Rattle.std.proofs.Common.{ap, sym, subst, ◌∙◌, not, nat_le, filter, arith}
use Rattle.std.specs.List.Sorted.{IsNonDecreasing}
use Rattle.std.proofs.lemmas.Bool.Decides.{nat_tests}
use Rattle.std.proofs.lemmas.List.Kept.{IsNonDecreasingBy-filter}
use Rattle.aud_rooms.specs.Private.Candidates.{is_past_upto}
use Rattle.aud_rooms.proofs.Parts.{filter_twice}
use Rattle.aud_rooms.proofs.cut.past_upto.Goals as goal

pub cut_after-requires-2 : goal.cut_after-requires-2
cut_after-requires-2 c = subst IsNonDecreasing (sym c.cut_after.ensures.past) (IsNonDecreasingBy-filter (λ n. n) (λ n. not (nat_le n c.args.after)) c.args.numbers.now c.requires)

pub returns : goal.returns
returns c =
    c.cut_after-2.ensures.upto ∙ ap (filter (λ n. nat_le n c.args.upto)) c.cut_after.ensures.past
    ∙ filter_twice (λ n. nat_le n c.args.upto) (λ n. not (nat_le n c.args.after)) (is_past_upto c.args.after c.args.upto) (λ n. grind (arith, nat_tests)) c.args.numbers.now
