use Rattle.std.proofs.Common.{[], ◌∷◌, refl, arith, subst}
use Rattle.aud_schedule.specs.declared.course.Size.{Size}
use Rattle.aud_schedule.specs.Acts.{Misnamed}
use Rattle.aud_schedule.specs.Size.{IsUpTo}
use Rattle.aud_schedule.proofs.Growing.{grown-then, grown-more}
use Rattle.aud_schedule.proofs.faults.misname.Goals as goal

pub returns-clause-acts : goal.returns-clause-acts
returns-clause-acts c =
    let size = c.args.course.now.size in
    let start = c.args.acts.now.items in
    let free = c.disconnect.new.acts.items in
    let end = c.add.new.acts.items in
    let there = subst (λ (s : Size). IsUpTo s.nodes c.some_node-node.result) c.disconnect.ensures.size c.some_node-node.ensures.node in
    let opened = c.in_ok-add.ensures.grown size refl (c.requires, there) in
    grown-more size 2 25 (Misnamed ∷ []) start end (omega arith) (grown-then size 1 1 [] (Misnamed ∷ []) start free end c.in_ok-disconnect.ensures.acts opened)
