use Rattle.std.proofs.Common.{[], ◌∷◌, refl, arith}
use Rattle.aud_schedule.specs.Acts.{UnansweredBack}
use Rattle.aud_schedule.proofs.Growing.{grown-then, grown-at, grown-more}
use Rattle.aud_schedule.proofs.faults.cut_before_reply.Goals as goal

pub returns-clause-acts : goal.returns-clause-acts
returns-clause-acts c =
    let size = c.args.course.now.size in
    let start = c.args.acts.now.items in
    let received = c.receive.new.acts.items in
    let cut = c.add.new.acts.items in
    let one = c.emit_to_all.new.acts.items in
    let taken = c.add-2.new.acts.items in
    let back = c.add-3.new.acts.items in
    let end = c.add-4.new.acts.items in
    let there = c.in_ok-node.ensures.node in
    let first = c.in_ok-add.ensures.grown size refl c.requires in
    let second = grown-at c.receive.new.course.size size 1 [] cut one c.receive.ensures.size c.in_ok-emit_to_all.ensures.acts in
    let third = c.in_ok-add-2.ensures.grown size refl there in
    let fourth = c.in_ok-add-3.ensures.grown size refl (c.requires, there) in
    let fifth = c.in_ok-add-4.ensures.grown size refl c.requires in
    grown-more size 17 25 (UnansweredBack ∷ []) start end (omega arith)
    (grown-then size 12 5 [] (UnansweredBack ∷ []) start received end c.in_ok-node.ensures.acts
    (grown-then size 1 4 [] (UnansweredBack ∷ []) received cut end first
    (grown-then size 1 3 [] (UnansweredBack ∷ []) cut one end second
    (grown-then size 1 2 [] (UnansweredBack ∷ []) one taken end third
    (grown-then size 1 1 (UnansweredBack ∷ []) [] taken back end fourth fifth)))))
