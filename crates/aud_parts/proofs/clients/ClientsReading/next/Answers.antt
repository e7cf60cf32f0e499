use Rattle.std.proofs.Common.{◌≡◌, [], refl, sym, subst, arith}
use Rattle.std.specs.List.{AllByRecursion}
use Rattle.std.proofs.lemmas.Bool.Decides.{nat_tests}
use Rattle.aud_parts.specs.TapRuns.{IsReadable, runs_lines}
use Rattle.aud_parts.specs.Private.ClientSteps.{AreSoFar}
use Rattle.aud_parts.specs.Private.TapsRead.{HoldsLines}
use Rattle.aud_parts.proofs.ClientsLemmas.{so-far-held, so-far-told}
use Rattle.aud_parts.proofs.clients.ClientsReading.next.Goals.{then-saturating_add-gt-MOST_HELD+in_ok-read_batch, else-saturating_add-gt-MOST_HELD, in-Ok, in-Err}
use Rattle.aud_parts.proofs.clients.ClientsReading.next.Goals as goal

pub returns-then-bytes-gt-MOST_HELD-clause-told : goal.returns-then-bytes-gt-MOST_HELD-clause-told
returns-then-bytes-gt-MOST_HELD-clause-told g c = λ files taps known may so.
    let tap = c.args.tap.now in
    let reading = c.if-saturating_add-gt-MOST_HELD.self in
    let both : AreSoFar files taps reading × (reading.held.items ≡ []) =
    elim c.if-saturating_add-gt-MOST_HELD.branch [
      | then-saturating_add-gt-MOST_HELD+in_ok-read_batch w ↦ rw w.self-is (w.in_ok-read_batch.ensures.told files taps so, w.in_ok-read_batch.ensures.held)
      | else-saturating_add-gt-MOST_HELD w ↦ absurd (grind (arith, nat_tests, c.saturating_add.ensures, w.if-saturating_add-gt-MOST_HELD.false, c.if-bytes-gt-MOST_HELD.true))
    ] in
    so-far-told files taps tap reading c.add.new.self c.in_ok-told.told both.0 both.1
    (c.in_ok-told.ensures (runs_lines files tap.runs) (c.in_ok-read.ensures.tap files known may.readable))
    c.in_ok-add.ensures.clients c.in_ok-add.ensures.refusal c.in_ok-add.ensures.held c.in_ok-add.ensures.stream

pub returns-clause-told : goal.returns-clause-told
returns-clause-told g c = λ files taps known may so.
    let tap = c.args.tap.now in
    let reading = c.if-saturating_add-gt-MOST_HELD.self in
    let before : AreSoFar files taps reading =
    elim c.if-saturating_add-gt-MOST_HELD.branch [
      | then-saturating_add-gt-MOST_HELD+in_ok-read_batch w ↦ rw w.self-is (w.in_ok-read_batch.ensures.told files taps so)
      | else-saturating_add-gt-MOST_HELD w ↦ rw w.self-is so
    ] in
    let holds : HoldsLines (runs_lines files tap.runs) c.in_ok-runs.runs.items =
    subst (λ runs. HoldsLines (runs_lines files runs) c.in_ok-runs.runs.items) c.runs.ensures
    (c.in_ok-runs.ensures.runs files known (subst (AllByRecursion (IsReadable files)) (sym c.runs.ensures) may.readable)) in
    elim c.match-push.branch [
      | in-Ok w ↦ rw w.result-is (so-far-held files taps reading _ _ before w.in-Ok.ensures.items holds refl refl refl)
      | in-Err w ↦ rw w.result-is tt
    ]
