use Rattle.std.proofs.Common.{◌≡◌, drop, []}
use Rattle.aud_findings.specs.Runs.{extended_by}
use Rattle.aud_findings.proofs.timeline.runs.joined_events.Given as goal

abbrev pub invariant-loop-event : goal.invariant-loop-event
invariant-loop-event l = extended_by l.all.items (drop l.event-index l.events) ≡ extended_by [] l.events
