use Rattle.aud_parts.proofs.MergeLemmas.{merges_reports}
use Rattle.aud_parts.proofs.merging.laws.merges_reports.Goals as goal

pub returns : goal.returns
returns c = merges_reports
