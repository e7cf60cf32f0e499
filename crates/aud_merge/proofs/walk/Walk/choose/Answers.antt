use Rattle.std.proofs.Common.{sym, ◌∙◌}
use Rattle.aud_merge.proofs.Choosing.{chosen_is, none_is}
use Rattle.aud_merge.proofs.walk.Walk.choose.Goals as goal

pub returns-then-allowed-clause-chosen : goal.returns-then-allowed-clause-chosen
returns-then-allowed-clause-chosen c =
    chosen_is c.args.logs.now c.loop-log.self.state c.args.self.now.state c.in-Some.log c.taken.result
    c.loop-log.invariant.state c.taken.ensures (sym c.allowed.ensures ∙ c.if-allowed.true)
    (λ q within below. (c.loop-log.invariant.asleep q within (c.in-Some.ensures.least q below)).blocked)

pub returns-clause-chosen : goal.returns-clause-chosen
returns-clause-chosen c =
    none_is c.args.logs.now c.loop-log.self.state c.args.self.now.state c.loop-log.invariant.state
    (λ q within. (c.loop-log.invariant.asleep q within (c.in_default.ensures.none q)).blocked)
