use Rattle.std.proofs.Common.{[], ◌∷◌, refl, arith}
use Rattle.aud_schedule.specs.Acts.{Unknown}
use Rattle.aud_schedule.proofs.Growing.{grown-then, grown-more}
use Rattle.aud_schedule.proofs.faults.ask_unknown.Goals as goal

pub returns-clause-acts : goal.returns-clause-acts
returns-clause-acts c =
    let size = c.args.course.now.size in
    let start = c.args.acts.now.items in
    let received = c.receive.new.acts.items in
    let cut = c.add.new.acts.items in
    let end = c.add-2.new.acts.items in
    let first = c.in_ok-add.ensures.grown size refl c.requires in
    let second = c.in_ok-add-2.ensures.grown size refl (c.requires, c.in_ok-node.ensures.node) in
    let from_cut = grown-then size 1 1 [] (Unknown ∷ []) received cut end first second in
    grown-more size 14 25 (Unknown ∷ []) start end (omega arith) (grown-then size 12 2 [] (Unknown ∷ []) start received end c.in_ok-node.ensures.acts from_cut)
