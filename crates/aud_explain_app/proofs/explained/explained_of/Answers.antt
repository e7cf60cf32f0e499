use Rattle.std.proofs.Common.{Some, ap, ◌∙◌}
use Rattle.aud_explain_app.proofs.explained.explained_of.Goals as goal

pub explained_by-requires-in-Some-tap-clause-client : goal.explained_by-requires-in-Some-tap-clause-client
explained_by-requires-in-Some-tap-clause-client c =
    ap Some (c.in-Some-tap.ensures.is_of c.args.sheet.recording.now c.requires).1 ∙ c.in-Some.ensures
