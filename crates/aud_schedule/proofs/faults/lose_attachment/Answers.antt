use Rattle.std.proofs.Common.{[], ◌∷◌, ◌∙◌, refl, arith, subst}
use Rattle.aud_schedule.specs.declared.course.Size.{Size}
use Rattle.aud_schedule.specs.Acts.{Shortened, IsQuiet}
use Rattle.aud_schedule.proofs.Growing.{grown-then, grown-at, grown-more, grown-quiet, quiet-settled}
use Rattle.aud_schedule.proofs.faults.lose_attachment.Goals as goal

pub returns-clause-acts : goal.returns-clause-acts
returns-clause-acts c =
    let size = c.args.course.now.size in
    let start = c.args.acts.now.items in
    let there = c.connect.new.acts.items in
    let taken = c.catch_up.new.acts.items in
    let spoilt = c.add.new.acts.items in
    let one = c.add-2.new.acts.items in
    let two = c.emit_to_all.new.acts.items in
    let end = c.catch_up-2.new.acts.items in
    let act = c.in_ok-act.act in
    let same = c.connect.ensures.size in
    let same_then = c.catch_up.ensures.size ∙ same in
    let same_after = c.emit_binary.ensures.size ∙ same_then in
    let quiet = subst (λ (s : Size). IsQuiet s act) same_then c.in_ok-act.ensures.act in
    let second = grown-at c.connect.new.course.size size 10 [] there taken same c.in_ok-catch_up.ensures.acts in
    let third = c.in_ok-add.ensures.grown size refl c.requires in
    let fourth = grown-quiet size act spoilt one quiet (c.in_ok-add-2.ensures.grown size (quiet-settled act quiet.no_fault) quiet.within) in
    let fifth = grown-at c.emit_binary.new.course.size size 1 [] one two same_after c.in_ok-emit_to_all.ensures.acts in
    let last = grown-at c.emit_to_all.new.course.size size 10 [] two end (c.emit_to_all.ensures.size ∙ same_after) c.in_ok-catch_up-2.ensures.acts in
    grown-more size 24 25 (Shortened ∷ []) start end (omega arith)
    (grown-then size 1 23 [] (Shortened ∷ []) start there end c.in_ok-node.ensures.acts
    (grown-then size 10 13 [] (Shortened ∷ []) there taken end second
    (grown-then size 1 12 (Shortened ∷ []) [] taken spoilt end third
    (grown-then size 1 11 [] [] spoilt one end fourth
    (grown-then size 1 10 [] [] one two end fifth last)))))
