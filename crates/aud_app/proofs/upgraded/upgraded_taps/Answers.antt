use Rattle.std.proofs.Common.{rules, ◌≡◌, IfOk, map, subst}
use Rattle.aud_node.specs.Cluster.{Cluster, cluster_of}
use Rattle.aud_upgrade.specs.declared.joins.Joins.TheVariants.{TakeAlone}
use Rattle.aud_upgrade.specs.Upgraded.{upgraded_tap}
use Rattle.aud_app.proofs.upgraded.upgraded_taps.Goals as goal

pub returns : goal.returns
returns c =
    let logs : c.deref.result.now ≡ cluster_of c.args.taps.now = search rules in
    subst (λ (k : Cluster). IfOk c.upgrade.result (λ taps. taps ≡ map (upgraded_tap TakeAlone k.stream) k.taps)) logs c.upgrade.ensures
