use Rattle.std.proofs.Common.{[], ◌∷◌, refl, arith}
use Rattle.aud_schedule.specs.Acts.{LostBreak}
use Rattle.aud_schedule.proofs.Growing.{grown-then, grown-more}
use Rattle.aud_schedule.proofs.faults.lose_break.Goals as goal

pub returns-clause-acts : goal.returns-clause-acts
returns-clause-acts c =
    let size = c.args.course.now.size in
    let start = c.args.acts.now.items in
    let received = c.receive.new.acts.items in
    let cut = c.add_two.new.acts.items in
    let end = c.add.new.acts.items in
    let first = c.in_ok-add_two.ensures size tt (record { no_fault = refl; within = c.requires }) in
    let second = c.in_ok-add.ensures.grown size refl (c.requires, c.in_ok-node.ensures.node) in
    let from_cut = grown-then size 2 1 (LostBreak ∷ []) [] received cut end first second in
    grown-more size 15 25 (LostBreak ∷ []) start end (omega arith) (grown-then size 12 3 [] (LostBreak ∷ []) start received end c.in_ok-node.ensures.acts from_cut)
