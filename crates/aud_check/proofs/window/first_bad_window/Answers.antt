use Rattle.std.proofs.Common.{◌≡◌, length, map, sym, ap, subst, ◌∙◌, arith}
use Rattle.std.proofs.lemmas.Grind.{common_steps}
use Rattle.aud_client.specs.StaySeen.{StaySeen}
use Rattle.aud_check.specs.Window.{IsBadWindow}
use Rattle.aud_check.proofs.Windows.{left_more}
use Rattle.aud_check.proofs.BadWindows.{is_first, passed_more, before_more}
use Rattle.aud_check.proofs.window.first_bad_window.Goals as goal

pub returns-in-Some : goal.returns-in-Some
returns-in-Some c =
    λ up.
    let shown = c.in-Some.ensures up in
    subst (λ connection. IsBadWindow c.args.stream.now (map (λ stay. stay.now) c.args.stays.now) (record { stay = c.loop-number.number; c = connection; why = c.in-Some.why }))
    (sym (ap (λ (s : StaySeen). s.c) c.stay.view_is))
    (is_first (λ stay. stay.now) c.args.stream.now c.args.stays.now c.args.positions.now c.requires c.loop-number.number c.loop-number.left c.index-stays-number.result c.loop-number-test.true
    c.index-stays-number.is c.loop-number.invariant.counted (c.loop-number.invariant.passed up) (c.loop-number.invariant.before up) c.in-Some.why shown.0 shown.1 shown.2)

pub overflow_sub-left : goal.overflow_sub-left
overflow_sub-left c =
    let len : c.len-left.result ≡ length c.stay.inside.frames.items = grind (arith, common_steps) in
    let long : c.len-left.result ≡ length c.index-stays-number.result.now.frames = len ∙ ap (λ (s : StaySeen). length s.frames) c.stay.view_is in
    let more = left_more (λ stay. stay.now) c.args.stream.now c.args.stays.now c.args.positions.now c.requires c.loop-number.number c.loop-number.left c.index-stays-number.result c.loop-number-test.true c.index-stays-number.is c.loop-number.invariant.counted in
    let within = more.0 in
    omega (arith, long, within)

pub loop-number-preserved : goal.loop-number-preserved
loop-number-preserved c =
    let len : c.len-left.result ≡ length c.stay.inside.frames.items = grind (arith, common_steps) in
    let long : c.len-left.result ≡ length c.index-stays-number.result.now.frames = len ∙ ap (λ (s : StaySeen). length s.frames) c.stay.view_is in
    let (within, rest) = left_more (λ stay. stay.now) c.args.stream.now c.args.stays.now c.args.positions.now c.requires c.loop-number.number c.loop-number.left c.index-stays-number.result c.loop-number-test.true c.index-stays-number.is c.loop-number.invariant.counted in
    record {
      counted = omega (arith, long, within, rest);
      passed =
          λ up.
          passed_more (λ stay. stay.now) c.args.stream.now c.args.stays.now c.args.positions.now c.requires c.loop-number.number c.loop-number.left c.index-stays-number.result c.loop-number-test.true
          c.index-stays-number.is c.loop-number.invariant.counted (c.loop-number.invariant.passed up) (c.loop-number.invariant.before up) (c.in_default.ensures up);
      before =
          λ up.
          before_more (λ stay. stay.now) c.args.stream.now c.args.stays.now c.args.positions.now c.requires c.loop-number.number c.loop-number.left c.index-stays-number.result c.loop-number-test.true
          c.index-stays-number.is c.loop-number.invariant.counted (c.loop-number.invariant.passed up) (c.loop-number.invariant.before up) (c.in_default.ensures up);
    }
