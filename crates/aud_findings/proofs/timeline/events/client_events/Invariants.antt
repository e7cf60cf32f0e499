use Rattle.std.proofs.Common.{◌≡◌, take}
use Rattle.aud_findings.specs.ClientEvents.{events_of_stays}
use Rattle.aud_findings.proofs.timeline.events.client_events.Given as goal

abbrev pub invariant-loop-number : goal.invariant-loop-number
invariant-loop-number l = l.events.items ≡ events_of_stays l.sheet.recording.now l.sheet.lines.now l.tap.place l.pid (take l.number-index l.numbers)
