use Rattle.std.proofs.Common.{◌∙◌, ℕ, List, ap, length, map, string_bytes, subst, sym}
use Rattle.std.specs.Borrow.{Bor}
use Rattle.std.proofs.lemmas.List.{length-map}
use Rattle.std.proofs.lemmas.Result.{IfOk-weaker}
use Rattle.aud_explain_app.specs.Alike.{telling_of}
use Rattle.aud_explain_app.specs.Asked.{asked_for}
use Rattle.aud_explain_app.specs.CausesTold.{AreCausesTold}
use Rattle.aud_explain_app.specs.Written.{IsWritten}
use Rattle.aud_explain_app.proofs.Steps.{text_by}
use Rattle.aud_explain_app.proofs.sessions.text_of.Goals as goal

pub returns : goal.returns
returns c =
    let recording = c.args.sheet.recording.now in
    let t = telling_of c.args.session.now in
    let explained = c.in_ok-explained.explained in
    let names : List (Bor (List ℕ)) → List (List ℕ) = map (λ (other : Bor (List ℕ)). other.now) in
    IfOk-weaker c.told_text.result _ _ (λ told is.
    let made =
    subst (λ (pids : List (Bor (List ℕ))). IsWritten c.args.layout.form c.args.layout.files.now c.as_str-pid.result.now c.args.session.now.session.now.verdict (names pids) explained (string_bytes told.text)
    × AreCausesTold c.args.session.now.session.now.verdict (length pids) explained told.causes) c.as_slice-alike.ensures.value is
    in
    text_by recording c.args.sheet.lines.now c.args.layout.form c.args.layout.files.now t _ _ explained told
    c.as_str-pid.ensures
    (c.as_slice-own.ensures.value ∙ c.in_ok-own.ensures recording c.requires.asked ∙ ap (asked_for recording) c.as_str-pid.ensures)
    c.in_ok-explained.ensures made.0
    (subst (λ n. AreCausesTold t.session.verdict n explained told.causes) (sym (length-map c.args.session.now.alike.items (λ (other : Bor (List ℕ)). other.now))) made.1)) c.told_text.ensures
