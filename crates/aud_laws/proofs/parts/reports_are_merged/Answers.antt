use Rattle.aud_node.specs.Cluster.{cluster_of}
use Rattle.aud_maker.specs.Sessions.{sessions_of}
use Rattle.aud_laws.proofs.InParts.Reports.{answers}
use Rattle.aud_laws.proofs.InParts.Merging.{right-answers, merged-whole}
use Rattle.aud_laws.proofs.parts.reports_are_merged.Goals as goal

pub returns : goal.returns
returns c =
    let kept = c.upgrades_keep_verdicts.ensures in
    let merges = c.merges_reports.ensures in
    record {
      verdicts = λ taps whole listing reports formed is given.
          let (entries, right) = right-answers kept taps whole listing is given.own given.are in
          (entries, right, merged-whole kept taps whole listing is given.own given.are merges formed reports given.order entries right);
      report = λ taps whole listing reports entries formed is given verdicts.
          merged-whole kept taps whole listing is given.own given.are merges formed reports given.order entries
          (answers (cluster_of taps) whole (sessions_of (cluster_of taps)) entries verdicts);
    }
