use Rattle.std.proofs.Common.{refl, sym}
use Rattle.aud_explain_app.proofs.program.explain.Goals as goal

pub returns-in_ok-status-in-Ok-clause-ok : goal.returns-in_ok-status-in-Ok-clause-ok
returns-in_ok-status-in-Ok-clause-ok g c =
    let ok = c.in_ok-status-in-Ok.ensures.ok in
    (c.in-Ok.field-0, c.in-Ok.ensures.explanation, record { status_is = sym ok.0; left_out_are = refl }, ok.1)
