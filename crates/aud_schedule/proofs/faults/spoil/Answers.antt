use Rattle.std.proofs.Common.{[], ◌∙◌, None, arith, option_to_list}
use Rattle.aud_schedule.specs.Acts.{fault_of}
use Rattle.aud_schedule.proofs.Growing.{grown-then, grown-on, grown-at, grown-more}
use Rattle.aud_schedule.proofs.faults.spoil.Goals as goal

pub returns-clause-acts : goal.returns-clause-acts
returns-clause-acts c =
    let size = c.args.course.now.size in
    let fault = option_to_list (fault_of c.args.act None) in
    let start = c.args.acts.now.items in
    let there = c.connect.new.acts.items in
    let spoilt = c.add.new.acts.items in
    let one = c.emit_to_all.new.acts.items in
    let two = c.emit_to_all-2.new.acts.items in
    let end = c.catch_up.new.acts.items in
    let same = c.connect.ensures.size in
    let same_then = c.emit_to_all.ensures.size ∙ same in
    let first = grown-at c.connect.new.course.size size 1 [] spoilt one same c.in_ok-emit_to_all.ensures.acts in
    let second = grown-at c.emit_to_all.new.course.size size 1 [] one two same_then c.in_ok-emit_to_all-2.ensures.acts in
    let last = grown-at c.emit_to_all-2.new.course.size size 10 [] two end (c.emit_to_all-2.ensures.size ∙ same_then) c.in_ok-catch_up.ensures.acts in
    let sent = grown-then size 1 11 [] [] spoilt one end first (grown-then size 1 10 [] [] one two end second last) in
    let from_act = grown-on size 1 12 fault there spoilt end (c.in_ok-add.ensures.grown size c.requires.settled c.requires.within) sent in
    grown-more size 14 25 fault start end (omega arith) (grown-then size 1 13 [] fault start there end c.in_ok-node.ensures.acts from_act)
