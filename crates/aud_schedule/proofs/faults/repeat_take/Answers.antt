use Rattle.std.proofs.Common.{[], ◌∷◌, refl, arith}
use Rattle.aud_schedule.specs.Acts.{RepeatedTake}
use Rattle.aud_schedule.proofs.Growing.{grown-then, grown-at, grown-more}
use Rattle.aud_schedule.proofs.faults.repeat_take.Goals as goal

pub returns-clause-acts : goal.returns-clause-acts
returns-clause-acts c =
    let size = c.args.course.now.size in
    let start = c.args.acts.now.items in
    let there = c.connect.new.acts.items in
    let one = c.emit_to_all.new.acts.items in
    let end = c.add_two.new.acts.items in
    let first = grown-at c.connect.new.course.size size 1 [] there one c.connect.ensures.size c.in_ok-emit_to_all.ensures.acts in
    let second = c.in_ok-add_two.ensures size tt (record { no_fault = refl; within = c.in_ok-node.ensures.node }) in
    let from_event = grown-then size 1 2 [] (RepeatedTake ∷ []) there one end first second in
    grown-more size 4 25 (RepeatedTake ∷ []) start end (omega arith) (grown-then size 1 3 [] (RepeatedTake ∷ []) start there end c.in_ok-node.ensures.acts from_event)
