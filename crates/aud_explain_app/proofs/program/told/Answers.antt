use Rattle.std.proofs.Common.{◌≡◌, ◌∙◌, inl, map, subst, sym}
use Rattle.std.proofs.lemmas.Result.{IfErr-weaker, IfOk-weaker}
use Rattle.aud_base.specs.Watched.{inner_of}
use Rattle.aud_input.specs.Files.{AreRecorded}
use Rattle.aud_explain_app.proofs.Untold.{untold_files}
use Rattle.aud_explain_app.proofs.program.told.Given.{Over}
use Rattle.aud_explain_app.proofs.program.told.Goals as goal

-- what is told of is what was read
recorded : (g : Over) (c : goal.After-told_of g) → AreRecorded (map (λ file. g.R.Read.remaining (inner_of file)) c.args.files.now) c.deref.result.now
recorded g c =
    let same : c.deref.result.now ≡ c.in-Ok.recorded = c.deref.ensures ∙ c.new-recorded.ensures in
    subst (AreRecorded (map (λ file. g.R.Read.remaining (inner_of file)) c.args.files.now)) (sym same) c.in-Ok.ensures.recorded

pub returns-in-Ok-clause-told : goal.returns-in-Ok-clause-told
returns-in-Ok-clause-told g c = IfOk-weaker c.told_of.result _ _ (λ output told. inl (c.deref.result.now, recorded g c, told.0, told.1)) c.told_of.ensures.told

pub returns-in-Ok-clause-untold : goal.returns-in-Ok-clause-untold
returns-in-Ok-clause-untold g c =
    IfErr-weaker c.told_of.result _ _ (λ e why. untold_files c.args.options.now _ (map (λ file. g.R.Read.remaining (inner_of file)) c.args.files.now) c.deref.result.now e (recorded g c) why) c.told_of.ensures.untold
