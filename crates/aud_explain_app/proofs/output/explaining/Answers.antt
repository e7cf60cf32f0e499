use Rattle.std.proofs.Common.{◌≡◌, List, [], ◌++◌, Err, string_bytes, refl, sym, ap, subst, ◌∙◌}
use Rattle.std.proofs.lemmas.Result.{err_from_is_err_and}
use Rattle.aud_session_facts.specs.declared.asked.Recovery.{Recovery}
use Rattle.aud_explain_app.specs.Alike.{tellings}
use Rattle.aud_explain_app.specs.Chosen.{pids_left_out, sessions_chosen}
use Rattle.aud_explain_app.specs.Missing.{first_missing}
use Rattle.aud_explain_app.specs.Output.{AreFigures, form_of, pids_in, summary_in, timed}
use Rattle.aud_explain_app.specs.Strangers.{AreAdded, asked_in_vain, pids_of}
use Rattle.aud_explain_app.specs.Texts.{AddTexts}
use Rattle.aud_explain_app.proofs.Missing.{known_pids, same_fault}
use Rattle.aud_explain_app.proofs.output.explaining.Goals as goal

pub returns-in_err-told-clause-missing : goal.returns-in_err-told-clause-missing
returns-in_err-told-clause-missing g c = λ number is.
    let recording = c.args.sheet.recording.now in
    let whole = c.args.options.now.whole in
    let verdicts = c.args.verdicts.items in
    let fault = err_from_is_err_and c.from_residual-in_err-told.result c.from_residual-in_err-told.ensures.1 in
    let all = c.deref-2.ensures.value ∙ c.in_ok-asked.ensures.all_are in
    let added = subst (λ (rs : List Recovery). AreAdded recording whole (asked_in_vain recording rs) verdicts c.add_strangers.new.sessions.items) all c.in_ok-add_strangers.ensures in
    let known = ap pids_of c.deref-3.ensures.value ∙ known_pids recording whole verdicts _ c.requires added in
    ap (λ pids. first_missing pids c.args.options.now.pids) (sym known) ∙ c.in_err-told.ensures.missing number (ap Err (sym fault.2 ∙ same_fault c.from_residual-in_err-told.result _ _ fault.1 is))

pub returns-clause-explaining : goal.returns-clause-explaining
returns-clause-explaining g c =
    let recording = c.args.sheet.recording.now in
    let lines = c.args.sheet.lines.now in
    let files = c.args.files.now in
    let options = c.args.options.now in
    let verdicts = c.args.verdicts.items in
    let text = string_bytes c.in_ok-told.told.text in
    let causes = c.in_ok-told.told.causes.items in
    let figures = c.figures_of-figures.result in
    let all = c.deref-2.ensures.value ∙ c.in_ok-asked.ensures.all_are in
    let added = subst (λ (rs : List Recovery). AreAdded recording options.whole (asked_in_vain recording rs) verdicts c.add_strangers.new.sessions.items) all c.in_ok-add_strangers.ensures in
    let known = ap pids_of c.deref-3.ensures.value ∙ known_pids recording options.whole verdicts _ c.requires added in
    record {
      verdicts = verdicts;
      are_verdicts = c.requires;
      sessions = c.add_strangers.new.sessions.items;
      are_sessions = added;
      none_missing = ap (λ pids. first_missing pids options.pids) (sym known) ∙ c.in_ok-told.ensures.none_missing;
      texts = text;
      causes = causes;
      are_texts = subst (λ sessions. AddTexts recording lines (form_of options.form) files (tellings recording options.pids (sessions_chosen recording options.only options.pids sessions)) [] text [] causes) c.deref-3.ensures.value c.in_ok-told.ensures.told;
      figures = figures;
      are_figures = subst (λ verdicts. AreFigures options recording c.args.size verdicts figures) c.deref.ensures.value c.figures_of-figures.ensures;
      seconds = c.seconds_since-seconds.result;
      text_is = c.in_ok-push_summary.ensures ∙ (λ i. text ++ summary_in (c.form_of.ensures i) (timed figures.summary c.seconds_since-seconds.result) (c.deref-4.ensures.value i));
      status_is = refl;
      left_out_are = subst (λ sessions. pids_in c.in_ok-told.told.left_out.items ≡ pids_left_out recording options.only sessions options.pids) c.deref-3.ensures.value c.in_ok-told.ensures.left_out;
    }
