use Rattle.std.proofs.Common.{◌∙◌, sym, ap, subst, arith, List}
use Rattle.std.specs.List.{All}
use Rattle.aud_parts.specs.TapRuns.{MayBeRead, TapRuns}
use Rattle.aud_parts.specs.FileLines.{AreTapsOf}
use Rattle.aud_parts.specs.IndexSoFar.{Indexed}
use Rattle.aud_parts.proofs.FileRunLemmas.{are-taps}
use Rattle.aud_parts.proofs.IndexLemmas.{read-whole}
use Rattle.aud_parts.proofs.MayBeReadLemmas.{may-be-read}
use Rattle.aud_parts.proofs.tap_index.TapIndex.taps.Goals as goal

pub returns-clause-taps : goal.returns-clause-taps
returns-clause-taps c = λ files has counted.
    subst (AreTapsOf files) (sym (c.deref.ensures.value ∙ ap (λ (x : Indexed). (x.noted).taps) (read-whole c.args.self.now files (has counted)).0)) (are-taps files)

pub returns-clause-runs : goal.returns-clause-runs
returns-clause-runs c = λ files has counted.
    subst (λ (taps : List TapRuns). All (MayBeRead files) taps) (sym (c.deref.ensures.value ∙ ap (λ (x : Indexed). (x.noted).taps) (read-whole c.args.self.now files (has counted)).0))
    (may-be-read files (omega (arith, counted)))
