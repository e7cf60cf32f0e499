use Rattle.std.proofs.Common.{◌∙◌, ap}
use Rattle.aud_node.specs.Lists.{between}
use Rattle.aud_node.proofs.RecordLemmas.{between-between}
use Rattle.aud_node.proofs.recs.Recs.between.Goals as goal

pub returns : goal.returns
returns c =
    let r = c.self.inside in
    between-between r.recs.now r.from r.to c.args.from c.args.to c.min-from.result c.min-to.result c.self.invariant.1 c.min-to.ensures c.min-from.ensures
    ∙ ap (λ recs. between recs c.args.from c.args.to) c.self.view_is
