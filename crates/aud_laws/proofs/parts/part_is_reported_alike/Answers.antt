use Rattle.aud_node.specs.Cluster.{cluster_of}
use Rattle.aud_maker.specs.Sessions.{sessions_of}
use Rattle.aud_laws.proofs.InParts.Reports.{answers, part-report}
use Rattle.aud_laws.proofs.parts.part_is_reported_alike.Goals as goal

pub returns : goal.returns
returns c = λ taps whole pids entries its clients firsts are.
    part-report c.upgrades_keep_verdicts.ensures taps whole pids entries its clients firsts (answers (cluster_of taps) whole (sessions_of (cluster_of taps)) entries are)
