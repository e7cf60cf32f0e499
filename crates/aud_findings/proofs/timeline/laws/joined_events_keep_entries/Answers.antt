use Rattle.aud_findings.proofs.KeptLemmas.{events-keep}
use Rattle.aud_findings.proofs.timeline.laws.joined_events_keep_entries.Goals as goal

pub returns : goal.returns
returns c = events-keep
