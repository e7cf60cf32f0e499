use Rattle.std.proofs.Common.{◌≡◌, length, ap, ◌∙◌, arith}
use Rattle.std.proofs.lemmas.Simd.{leading_from_mask_l, length-chunk, trailing_mask_l}
use lib.Count.{count_trailing_zeros}
use lib.Lanes.{chunk}
use Rattle.json.specs.Run.{is_plain, is_stop}
use Rattle.aud_json.proofs.Runs.{run_stops, run_through, some_stop}
use Rattle.aud_json.proofs.run.plain_end.Goals.{then-bytes-i-ge8+else-found-ne0, else-bytes-i-ge8}
use Rattle.aud_json.proofs.run.plain_end.Goals as goal

pub returns-in-Some : goal.returns-in-Some
returns-in-Some c =
    let count = c.in-Some.ensures in
    let stops = run_stops is_plain c.args.bytes.now c.whole.i 16 (omega arith) (omega (arith, count.0, count.1)) in
    record { value = omega (arith, stops, count.0, c.whole.invariant.0); bound = omega (arith, count.1) }

pub whole-preserved : goal.whole-preserved
whole-preserved c =
    let through = run_through is_plain c.args.bytes.now c.whole.i 16 (omega arith) c.in_default.ensures in
    (omega (arith, through, c.whole.invariant.0), omega arith)

pub returns-then-found-ne0 : goal.returns-then-found-ne0
returns-then-found-ne0 c =
    let next = chunk c.whole.i 8 c.args.bytes.now in
    let long : length next ≡ 8 = length-chunk c.whole.i 8 c.args.bytes.now (omega arith) in
    let found = c.stops_8-found.ensures in
    let count = ap (count_trailing_zeros 64) found ∙ trailing_mask_l is_stop 64 next (omega (arith, long)) (omega (arith, found)) in
    let fewer = some_stop next (omega (arith, found)) in
    let stops = run_stops is_plain c.args.bytes.now c.whole.i 8 (omega arith) (omega (arith, fewer, long)) in
    record { value = omega (arith, stops, count, c.whole.invariant.0); bound = omega (arith, count, fewer, long) }

pub rest-init : goal.rest-init
rest-init c = elim c.if-bytes-i-ge8.branch [
  | then-bytes-i-ge8+else-found-ne0 w ↦
      let next = chunk c.whole.i 8 c.args.bytes.now in
      let long : length next ≡ 8 = length-chunk c.whole.i 8 c.args.bytes.now (omega arith) in
      let all = leading_from_mask_l is_stop next (omega (arith, w.stops_8-found.ensures)) in
      let through = run_through is_plain c.args.bytes.now c.whole.i 8 (omega arith) (omega (arith, all, long)) in
      rw w.i-is (omega (arith, through, c.whole.invariant.0), omega arith)
  | else-bytes-i-ge8 w ↦ rw w.i-is c.whole.invariant
]
