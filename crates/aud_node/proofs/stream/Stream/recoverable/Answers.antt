use Rattle.std.proofs.Common.{◌-◌, slice_get, ap, ◌∙◌, unwrap_or, false, arith}
use Rattle.aud_node.specs.AtPosition.{is_recoverable_at}
use Rattle.aud_base.proofs.Lists.{got}
use Rattle.aud_node.proofs.PositionLemmas.{recoverable-flag}
use Rattle.aud_node.proofs.stream.Stream.recoverable.Goals as goal

pub returns : goal.returns
returns c =
    c.unwrap_or.ensures
    ∙ ap (λ o. unwrap_or o false) (c.copied.ensures ∙ got c.deref.result.now (c.args.position - 1) c.get.result c.get.ensures.lookup.3 ∙ ap (λ fs. slice_get fs (c.args.position - 1)) (c.deref.ensures.value ∙ c.self.invariant.flags_are))
    ∙ recoverable-flag c.self.inside.entries c.args.position (omega arith)
    ∙ ap (λ s. is_recoverable_at s c.args.position) c.self.view_is
