use Rattle.std.proofs.Common.{◌++◌, ◌∙◌, ◌+◌, ◌<◌, ◌^◌, ◌≡◌, List, ap, drop, get_or, length, map, subst, sym, ℕ}
use Rattle.std.specs.List.{flat_map}
use Rattle.std.proofs.lemmas.List.{at_drop_more, at_drop_all}
use Rattle.aud_reader.specs.declared.line.Line.{Line}
use Rattle.aud_reader.specs.Bundle.{taps_to_come}
use Rattle.aud_reader.specs.Lines.{line_pieces}
use Rattle.aud_input.specs.LineRuns.{lines_of_runs}
use Rattle.aud_parts.specs.declared.tap_index.tap_reading.HeldRun.{HeldRun}
use Rattle.aud_parts.specs.TapRuns.{lines_with_bytes}
use Rattle.aud_parts.specs.Private.TapsRead.{held_lines}
use Rattle.aud_parts.proofs.TapReadingLemmas.{reading-ends, reading-on}
use Rattle.aud_parts.proofs.tap_index.tap_reading.read_held.Goals as goal

pub loop-run-preserved : goal.loop-run-preserved
loop-run-preserved c = λ lines h.
    let i = c.loop-run.run-index in
    let held = c.args.held.now in
    let after = flat_map held_lines (drop (i + 1) held) in
    let item = c.run-item.result in
    let is : get_or held i item ≡ item = sym c.run-item.is in
    let counted : item.number + length item.bytes.items < 2 ^ 64 =
    subst (λ (run : HeldRun). run.number + length run.bytes.items < 2 ^ 64) is (h.counted i item c.loop-run-test.true) in
    let small : item.number + length c.deref.result.now < 2 ^ 64 = subst (λ (bytes : List ℕ). item.number + length bytes < 2 ^ 64) (sym c.deref.ensures.value) counted in
    let own : c.push_lines.new.lines.items ≡ held_lines item =
    c.in_ok-push_lines.ensures.lines small
    ∙ ap (λ (ls : List Line). ls ++ lines_with_bytes item.number (line_pieces c.deref.result.now)) c.new-lines.ensures.items
    ∙ ap (λ (bytes : List ℕ). lines_with_bytes item.number (line_pieces bytes)) c.deref.ensures.value in
    reading-on lines c.loop-run.reading c.read.new.self (flat_map held_lines (drop i held)) c.push_lines.new.lines.items after (c.loop-run.invariant lines h)
    (at_drop_more (flat_map held_lines) held i item c.loop-run-test.true ∙ ap (λ (run : HeldRun). held_lines run ++ after) is ∙ ap (λ (ls : List Line). ls ++ after) (sym own))
    (c.in_ok-read.ensures.taps after ∙ ap (λ (ls : List Line). taps_to_come c.loop-run.reading.reader (ls ++ after)) c.deref-in-loop-run.ensures.value)
    (c.in_ok-read.ensures.lines ∙ ap (λ (ls : List Line). lines_of_runs c.loop-run.reading.lines ++ map (λ (line : Line). line.number) ls) c.deref-in-loop-run.ensures.value)

pub returns : goal.returns
returns c = λ lines h.
    let held = c.args.held.now in
    reading-ends lines c.loop-run.reading (flat_map held_lines (drop c.loop-run.run-index held)) c.finish.result (c.loop-run.invariant lines h)
    (at_drop_all (flat_map held_lines) held c.loop-run.run-index c.loop-run-test.false)
    c.finish.ensures.taps (c.finish.ensures.own lines) c.finish.ensures.lines
