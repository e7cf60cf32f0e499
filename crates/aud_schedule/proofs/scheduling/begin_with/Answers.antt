use Rattle.std.proofs.Common.{[], ◌∷◌, ◌∙◌, ◌+◌, arith}
use Rattle.aud_schedule.specs.Acts.{kind_of}
use Rattle.aud_schedule.proofs.Growing.{grown-then, grown-at, grown-more}
use Rattle.aud_schedule.proofs.scheduling.begin_with.Goals as goal

pub returns-clause-acts : goal.returns-clause-acts
returns-clause-acts c =
    let size = c.args.course.now.size in
    let before = c.below-before.result in
    let start = c.args.acts.now.items in
    let middle = c.fill.new.acts.items in
    let end = c.inject.new.acts.items in
    let first = grown-at c.below-before.new.self.size size before [] start middle c.below-before.ensures.size c.in_ok-fill.ensures.acts in
    let second = grown-at c.fill.new.course.size size 25 (kind_of c.args.fault ∷ []) middle end (c.fill.ensures.size ∙ c.below-before.ensures.size) c.in_ok-inject.ensures.acts in
    let all = grown-then size before 25 [] (kind_of c.args.fault ∷ []) start middle end first second in
    grown-more size (before + 25) c.args.count (kind_of c.args.fault ∷ []) start end (omega arith) all
