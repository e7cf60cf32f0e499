use Rattle.std.proofs.Common.{◌≡◌, map, take}
use Rattle.aud_findings.specs.Refused.{missed_entries, missed_seen}
use Rattle.aud_findings.proofs.timeline.refused.missed_entries.Given as goal

abbrev pub invariant-loop-position : goal.invariant-loop-position
invariant-loop-position l = map missed_seen l.entries.items ≡ missed_entries l.stream (take l.position-index l.positions)
