use Rattle.std.proofs.Common.{◌≡◌, ◌<◌, length, slice_get, Some, sym, ap, ◌∙◌, arith, option_copied}
use Rattle.aud_upgrade.proofs.LoopLemmas.{within, emitted, kept-more, took-more}
use Rattle.aud_upgrade.proofs.log.upgraded_log.Goals.{in-Some+in_ok-keep, in_default}
use Rattle.aud_upgrade.proofs.log.upgraded_log.Goals as goal

pub loop-number-preserved : goal.loop-number-preserved
loop-number-preserved c =
    let joins = c.args.joins in
    let stream = c.args.log.now.stream in
    let log = c.args.log.now.recs in
    let n = c.loop-number.number in
    let invariant = c.loop-number.invariant in
    let got : option_copied c.get.result ≡ slice_get log n = c.get.ensures ∙ ap (λ xs. slice_get xs n) c.recs-recs.ensures in
    elim c.match-get.branch [
      | in-Some+in_ok-keep w ↦
          (let at : slice_get log n ≡ Some w.in-Some.rec.now = sym got ∙ ap option_copied w.in-Some.is in
          let emit = emitted joins stream log n c.loop-number.before c.loop-number.here c.takes_next-after.result w.in-Some.rec.now invariant.1 invariant.2 c.takes_next-after.ensures at in
          (w.kept-is ∙ w.in_ok-keep.ensures ∙ kept-more joins stream log n c.loop-number.kept _ invariant.0 emit, took-more joins stream log n c.loop-number.here invariant.2, c.takes_next-after.ensures))
      | in_default w ↦
          (let h : n < length log = omega (arith, c.loop-number-test.true, c.len-number-end.ensures, ap length c.recs-recs.ensures) in
          absurd (within stream log n h (sym got ∙ ap option_copied w.in_default.is)))
    ]
