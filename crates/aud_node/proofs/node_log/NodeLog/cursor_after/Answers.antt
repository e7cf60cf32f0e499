use Rattle.std.proofs.Common.{slice_get, ap, ◌∙◌}
use Rattle.aud_base.proofs.Lists.{got}
use Rattle.aud_node.proofs.CursorLemmas.{cursors_after-read}
use Rattle.aud_node.specs.NodeTap.{cursor_after}
use Rattle.aud_node.proofs.node_log.NodeLog.cursor_after.Goals as goal

pub returns : goal.returns
returns c =
    c.copied.ensures
    ∙ got c.deref.result.now c.args.number c.get.result c.get.ensures.lookup.3
    ∙ ap (λ ps. slice_get ps c.args.number) (c.deref.ensures.value ∙ c.self.invariant.cursors_are.after_are)
    ∙ cursors_after-read c.self.inside.stream c.self.inside.recs.now c.args.number
    ∙ ap (λ log. cursor_after log c.args.number) c.self.view_is
