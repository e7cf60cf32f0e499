use Rattle.std.proofs.Common.{◌<◌, ap, map, ◌∙◌, subst, arith}
use Rattle.aud_tap.specs.RecordFields.{offset_of}
use Rattle.aud_tap.specs.Rank.{rank}
use Rattle.aud_reader.specs.Private.Offsets.{HoldsOffsets}
use Rattle.aud_reader.proofs.OffsetsLemmas.{ascending-put}
use Rattle.aud_reader.proofs.bundle.offsets.Offsets.add.Goals as goal

pub returns-then-rank-last-clause-kept : goal.returns-then-rank-last-clause-kept
returns-then-rank-last-clause-kept c = λ text any.
    let all = map offset_of c.args.entries.now in
    let off = c.args.off.now in
    let last = c.in-Ascending.last in
    let same = c.rank-rank.ensures ∙ ap rank c.as_str.ensures in
    let held = subst (λ offsets. HoldsOffsets offsets all) c.in-Ascending.is c.requires in
    let more : last < rank off = omega (arith, same, c.if-rank-last.true) in
    omega (arith, same, ascending-put last all off held more text any)
