use Rattle.aud_findings.proofs.prepared.tap_at.Goals as goal

pub returns-in-Some-clause-place : goal.returns-in-Some-clause-place
returns-in-Some-clause-place c = (c.in-Some.ensures.is_of c.args.recording.now c.requires).1
