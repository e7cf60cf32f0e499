use Rattle.aud_explain_app.proofs.refused_told.refused_told.Goals as goal

pub told_in-requires-clause-place : goal.told_in-requires-clause-place
told_in-requires-clause-place c = (c.in-Some.ensures.is_of c.args.sheet.now.recording.now c.requires).1
