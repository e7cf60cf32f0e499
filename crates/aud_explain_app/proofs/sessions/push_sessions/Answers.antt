use Rattle.std.proofs.Common.{drop, string_bytes, arith}
use Rattle.std.proofs.lemmas.List.{drop_all}
use Rattle.aud_explain_app.specs.Alike.{telling_of}
use Rattle.aud_explain_app.proofs.Steps.{texts_none, texts_part, texts_put}
use Rattle.aud_explain_app.proofs.sessions.push_sessions.Goals as goal

pub loop-done-preserved : goal.loop-done-preserved
loop-done-preserved g c = λ end all others.
    let recording = c.args.sheet.recording.now in
    let lines = c.args.sheet.lines.now in
    let form = c.args.layout.form in
    let files = c.args.layout.files.now in
    let put =
    texts_put recording lines form files telling_of _ _ (string_bytes c.loop-done.out) (string_bytes c.push_all.new.out) c.loop-done.causes.items c.push_all.new.causes.items c.in_ok-texts.ensures
    c.in_ok-push_all.ensures.text c.in_ok-push_all.ensures.causes
    in
    c.loop-done.invariant end all
    (texts_part recording lines form files telling_of c.args.sessions.now c.loop-done.done c.min.result _ _ end _ _ all (omega (arith, c.min.ensures)) put others)

pub returns : goal.returns
returns g c =
    c.loop-done.invariant (string_bytes c.loop-done.out) c.loop-done.causes.items
    (texts_none c.args.sheet.recording.now c.args.sheet.lines.now c.args.layout.form c.args.layout.files.now telling_of (drop c.loop-done.done c.args.sessions.now) _ _
    (drop_all c.loop-done.done c.args.sessions.now c.loop-done-test.false))
