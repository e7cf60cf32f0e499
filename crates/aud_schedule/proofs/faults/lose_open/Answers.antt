use Rattle.std.proofs.Common.{[], ◌∷◌, refl, arith, subst}
use Rattle.aud_schedule.specs.declared.course.Size.{Size}
use Rattle.aud_schedule.specs.Acts.{LostOpen}
use Rattle.aud_schedule.specs.Size.{IsUpTo}
use Rattle.aud_schedule.proofs.Growing.{grown-then, grown-more}
use Rattle.aud_schedule.proofs.faults.lose_open.Goals as goal

pub returns-clause-acts : goal.returns-clause-acts
returns-clause-acts c =
    let size = c.args.course.now.size in
    let start = c.args.acts.now.items in
    let free = c.disconnect.new.acts.items in
    let end = c.add_two.new.acts.items in
    let there = subst (λ (s : Size). IsUpTo s.nodes c.some_node-node.result) c.disconnect.ensures.size c.some_node-node.ensures.node in
    let lost = c.in_ok-add_two.ensures size tt (record { no_fault = refl; within = (c.requires, there) }) in
    grown-more size 3 25 (LostOpen ∷ []) start end (omega arith) (grown-then size 1 2 [] (LostOpen ∷ []) start free end c.in_ok-disconnect.ensures.acts lost)
