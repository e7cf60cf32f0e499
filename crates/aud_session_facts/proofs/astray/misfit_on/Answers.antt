use Rattle.std.proofs.Common.{None, sym}
use Rattle.aud_node.specs.Cluster.{node_log}
use Rattle.aud_node.specs.OwnRecords.{own_numbers}
use Rattle.aud_session_facts.proofs.Sweeps.{astray-none}
use Rattle.aud_session_facts.proofs.astray.misfit_on.Goals as goal

pub returns-in-None : goal.returns-in-None
returns-in-None c =
    astray-none (node_log c.args.logs.now c.args.node) c.args.turns.now c.args.node (own_numbers (node_log c.args.logs.now c.args.node) c.args.pid.now) None (sym c.in-None.ensures)
