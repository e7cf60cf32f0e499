use Rattle.std.proofs.Common.{[], ◌∷◌, ◌∙◌}
use Rattle.aud_schedule.specs.Acts.{LostJoin}
use Rattle.aud_schedule.proofs.Growing.{grown-then, grown-at}
use Rattle.aud_schedule.proofs.faults.lose_join.Goals as goal

pub returns-clause-acts : goal.returns-clause-acts
returns-clause-acts c =
    let size = c.args.course.now.size in
    let start = c.args.acts.now.items in
    let there = c.connect.new.acts.items in
    let taken = c.catch_up.new.acts.items in
    let lost = c.lose_room.new.acts.items in
    let end = c.catch_up-2.new.acts.items in
    let same = c.connect.ensures.size in
    let same_then = c.catch_up.ensures.size ∙ same in
    let second = grown-at c.connect.new.course.size size 10 [] there taken same c.in_ok-catch_up.ensures.acts in
    let third = grown-at c.catch_up.new.course.size size 4 (LostJoin ∷ []) taken lost same_then c.in_ok-lose_room.ensures.acts in
    let fourth = grown-at c.lose_room.new.course.size size 10 [] lost end (c.lose_room.ensures.size ∙ same_then) c.in_ok-catch_up-2.ensures.acts in
    grown-then size 1 24 [] (LostJoin ∷ []) start there end c.in_ok-node.ensures.acts
    (grown-then size 10 14 [] (LostJoin ∷ []) there taken end second
    (grown-then size 4 10 (LostJoin ∷ []) [] taken lost end third fourth))
