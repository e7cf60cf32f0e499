use Rattle.std.proofs.Common.{List, refl, subst, ◌∙◌}
use Rattle.std.proofs.lemmas.List.{take_all}
use Rattle.aud_parts.specs.declared.tap_index.tap_runs.Run.{Run}
use Rattle.aud_parts.specs.TapRuns.{runs_lines}
use Rattle.aud_parts.specs.Private.TapsRead.{HoldsLines}
use Rattle.aud_parts.proofs.TapReadingLemmas.{held-more}
use Rattle.aud_parts.proofs.tap_index.tap_reading.hold.Goals as goal

pub loop-run-preserved : goal.loop-run-preserved
loop-run-preserved g c = record {
  source = c.in_ok-read_run.ensures.source ∙ c.loop-run.invariant.source;
  held = λ files known readable.
      let none : Run = record { file = 0; from = 0; to = 0; number = 0 } in
      held-more files c.args.runs.now c.loop-run.run-index none c.loop-run.held.items c.push.new.self.items _ c.loop-run-test.true readable
      (c.loop-run.invariant.held files known readable) refl (c.in_ok-read_run.ensures.run files (c.loop-run.invariant.source ∙ known)) c.in-Ok.ensures.items;
}

pub returns-clause-runs : goal.returns-clause-runs
returns-clause-runs g c = λ files known readable.
    subst (λ (runs : List Run). HoldsLines (runs_lines files runs) c.loop-run.held.items) (take_all c.loop-run.run-index c.args.runs.now c.loop-run-test.false)
    (c.loop-run.invariant.held files known readable)
