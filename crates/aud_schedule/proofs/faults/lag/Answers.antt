use Rattle.std.proofs.Common.{[], ◌∷◌, ◌∙◌, refl, arith, subst}
use Rattle.aud_schedule.specs.declared.course.Size.{Size}
use Rattle.aud_schedule.specs.Acts.{Lagging}
use Rattle.aud_schedule.specs.Size.{IsUpTo}
use Rattle.aud_schedule.proofs.Growing.{grown-then, grown-at, grown-more}
use Rattle.aud_schedule.proofs.faults.lag.Goals as goal

pub returns-clause-acts : goal.returns-clause-acts
returns-clause-acts c =
    let size = c.args.course.now.size in
    let start = c.args.acts.now.items in
    let received = c.receive.new.acts.items in
    let cut = c.add.new.acts.items in
    let back = c.add-2.new.acts.items in
    let end = c.catch_up.new.acts.items in
    let same = c.receive.ensures.size in
    let there = subst (λ (s : Size). IsUpTo s.nodes c.other_node-other.result) same c.other_node-other.ensures.node in
    let moved = c.move_to.ensures ∙ c.other_node-other.ensures.size ∙ same in
    let last = grown-at c.move_to.new.self.size size 10 [] back end moved c.in_ok-catch_up.ensures.acts in
    let second = c.in_ok-add-2.ensures.grown size refl (c.requires.client, there) in
    let first = c.in_ok-add.ensures.grown size refl c.requires.client in
    let from_cut = grown-then size 1 11 [] (Lagging ∷ []) received cut end first (grown-then size 1 10 (Lagging ∷ []) [] cut back end second last) in
    grown-more size 24 25 (Lagging ∷ []) start end (omega arith) (grown-then size 12 12 [] (Lagging ∷ []) start received end c.in_ok-node.ensures.acts from_cut)
