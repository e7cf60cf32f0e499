use Rattle.std.proofs.Common.{[], ◌∙◌}
use Rattle.aud_schedule.proofs.Growing.{grown-then, grown-at}
use Rattle.aud_schedule.proofs.faults.receive.Goals as goal

pub returns-clause-acts : goal.returns-clause-acts
returns-clause-acts c =
    let size = c.args.course.now.size in
    let there = c.connect.new.acts.items in
    let one = c.emit_to_all.new.acts.items in
    let end = c.catch_up.new.acts.items in
    let same = c.connect.ensures.size in
    let second = grown-at c.connect.new.course.size size 1 [] there one same c.in_ok-emit_to_all.ensures.acts in
    let third = grown-at c.emit_to_all.new.course.size size 10 [] one end (c.emit_to_all.ensures.size ∙ same) c.in_ok-catch_up.ensures.acts in
    grown-then size 1 11 [] [] c.args.acts.now.items there end c.in_ok-node.ensures.acts (grown-then size 1 10 [] [] there one end second third)
