use Rattle.std.proofs.Common.{subst}
use Rattle.std.proofs.lemmas.Result.{IfOk-weaker}
use Rattle.aud_findings.proofs.Read.{zip_weaker}
use Rattle.aud_explain_app.specs.declared.alike.Told.{Told}
use Rattle.aud_explain_app.specs.Alike.{telling_of}
use Rattle.aud_explain_app.specs.Texts.{IsTextOf}
use Rattle.aud_explain_app.proofs.sessions.texts_of.Goals as goal

pub returns : goal.returns
returns g c =
    let is = IsTextOf c.args.sheet.recording.now c.args.sheet.lines.now c.args.layout.form c.args.layout.files.now in
    IfOk-weaker c.try_map.result _ _ (λ v h.
    zip_weaker _ (λ session told. is (telling_of session) told) (λ session told call.
    subst (λ (s : Told). is (telling_of s) told) call.shows call.says.met) _ _ h) c.try_map.ensures
