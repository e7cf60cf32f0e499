use Rattle.std.proofs.Common.{ap, ◌∙◌, arith}
use Rattle.std.proofs.lemmas.Simd.{leading_from_mask_l, trailing_mask_l}
use lib.Count.{count_trailing_zeros}
use Rattle.json.specs.Run.{is_stop}
use Rattle.aud_json.proofs.Runs.{some_stop}
use Rattle.aud_json.proofs.run.plain_len.Goals as goal

pub returns-then-found-eq0 : goal.returns-then-found-eq0
returns-then-found-eq0 c = omega (arith, leading_from_mask_l is_stop c.args.bytes (omega (arith, c.stops-found.ensures)), c.fits-bytes.0)

pub returns : goal.returns
returns c =
    let found = c.stops-found in
    let value = ap (count_trailing_zeros 64) found.ensures ∙ trailing_mask_l is_stop 64 c.args.bytes (omega (arith, c.fits-bytes.0)) (omega (arith, found.ensures)) in
    (value, omega (arith, value, some_stop c.args.bytes (omega (arith, found.ensures)), c.fits-bytes.0))
