use Rattle.std.proofs.Common.{◌∙◌, ℕ, List, ap, map}
use Rattle.std.proofs.lemmas.List.{take_all}
use Rattle.aud_findings.specs.Also.{also_seen, lines_of, range_also}
use Rattle.aud_findings.proofs.InRanges.{told_all}
use Rattle.aud_findings.proofs.lines.told.Goals as goal

pub returns : goal.returns
returns c =
    let entries = c.in_ok-entries.entries in
    let items = c.deref-range-items.result.now in
    let sheet = c.args.sheet.now in
    let lines_at : ℕ → List ℕ = lines_of c.args.by sheet.recording.now sheet.lines.now c.args.tap.now.place c.args.numbers.now (map (λ frame. frame.now) c.args.frames.now) in
    told_all lines_at c.args.positions.now (map also_seen c.loop-range.ranges.items) items entries.left
    (c.loop-range.invariant ∙ ap (map (range_also lines_at)) (take_all c.loop-range.range-index items c.loop-range-test.false))
    (c.deref-range-items.ensures.value ∙ c.in_ok-entries.ensures.ranges) c.in_ok-entries.ensures.left
