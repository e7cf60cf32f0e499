use Rattle.std.proofs.Common.{[], ◌∷◌, ◌∙◌, refl, subst}
use Rattle.aud_schedule.specs.declared.course.Size.{Size}
use Rattle.aud_schedule.specs.Acts.{LostJoin, IsQuiet}
use Rattle.aud_schedule.proofs.Growing.{grown-then, grown-quiet, quiet-settled}
use Rattle.aud_schedule.proofs.faults.lose_room.Goals as goal

pub returns-clause-acts : goal.returns-clause-acts
returns-clause-acts c =
    let size = c.args.course.now.size in
    let start = c.args.acts.now.items in
    let parted = c.add.new.acts.items in
    let joined = c.add_two.new.acts.items in
    let end = c.add-2.new.acts.items in
    let act = c.in_ok-act.act in
    let same = c.hold_more.ensures ∙ c.below-index.ensures.size in
    let quiet = subst (λ (s : Size). IsQuiet s act) same c.in_ok-act.ensures.act in
    let first = c.in_ok-add.ensures.grown size refl c.requires in
    let second = c.in_ok-add_two.ensures size tt (record { no_fault = refl; within = c.requires }) in
    let third = grown-quiet size act joined end quiet (c.in_ok-add-2.ensures.grown size (quiet-settled act quiet.no_fault) quiet.within) in
    grown-then size 1 3 [] (LostJoin ∷ []) start parted end first
    (grown-then size 2 1 (LostJoin ∷ []) [] parted joined end second third)
