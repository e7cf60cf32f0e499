use Rattle.std.proofs.Common.{[], ◌∷◌, refl, arith, subst}
use Rattle.aud_schedule.specs.declared.course.Size.{Size}
use Rattle.aud_schedule.specs.Acts.{Unanswered}
use Rattle.aud_schedule.specs.Size.{IsUpTo}
use Rattle.aud_schedule.proofs.Growing.{grown-then, grown-more}
use Rattle.aud_schedule.proofs.faults.leave_unanswered.Goals as goal

pub returns-clause-acts : goal.returns-clause-acts
returns-clause-acts c =
    let size = c.args.course.now.size in
    let start = c.args.acts.now.items in
    let free = c.disconnect.new.acts.items in
    let opened = c.add.new.acts.items in
    let end = c.add-2.new.acts.items in
    let there = subst (λ (s : Size). IsUpTo s.nodes c.some_node-node.result) c.disconnect.ensures.size c.some_node-node.ensures.node in
    let first = c.in_ok-add.ensures.grown size refl (c.requires, there) in
    let second = c.in_ok-add-2.ensures.grown size refl c.requires in
    let from_open = grown-then size 1 1 (Unanswered ∷ []) [] free opened end first second in
    grown-more size 3 25 (Unanswered ∷ []) start end (omega arith) (grown-then size 1 2 [] (Unanswered ∷ []) start free end c.in_ok-disconnect.ensures.acts from_open)
