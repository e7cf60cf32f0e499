use Rattle.std.proofs.Common.{◌++◌, ◌∙◌, List, ap, map}
use Rattle.std.proofs.lemmas.Option.{MatchOption-at_some}
use Rattle.aud_reader.specs.declared.line.Line.{Line}
use Rattle.aud_reader.specs.Bundle.{taps_to_come}
use Rattle.aud_input.specs.LineRuns.{lines_of_runs}
use Rattle.aud_parts.specs.TapRuns.{runs_lines}
use Rattle.aud_parts.proofs.TapReadingLemmas.{none-left, reading-ends, reading-on}
use Rattle.aud_parts.proofs.tap_index.tap_reading.read_tap.Goals as goal

pub pieces-preserved : goal.pieces-preserved
pieces-preserved g c = record {
  source = c.in_ok-lines.ensures.source ∙ c.pieces.invariant.source;
  reading = λ files known readable.
      let r = c.pieces.invariant.reading files known readable in
      let given = MatchOption-at_some _ _ _ c.in-Some.is (c.in_ok-lines.ensures.lines files (c.pieces.invariant.source ∙ known) r.0) in
      let after = runs_lines files c.next_lines.new.self in (
        given.readable,
        reading-on (runs_lines files c.args.tap.now.runs) c.pieces.reading c.read.new.self (runs_lines files c.pieces.left) c.in-Some.lines.items after r.1 given.same
            (c.in_ok-read.ensures.taps after ∙ ap (λ (ls : List Line). taps_to_come c.pieces.reading.reader (ls ++ after)) c.deref.ensures.value)
            (c.in_ok-read.ensures.lines ∙ ap (λ (ls : List Line). lines_of_runs c.pieces.reading.lines ++ map (λ (line : Line). line.number) ls) c.deref.ensures.value),
      );
}

pub returns-clause-tap : goal.returns-clause-tap
returns-clause-tap g c = λ files known readable.
    let r = c.pieces.invariant.reading files known readable in
    let none = none-left _ _ c.in_ok-lines.field-0 c.in_default.not-Some (c.in_ok-lines.ensures.lines files (c.pieces.invariant.source ∙ known) r.0) in
    reading-ends (runs_lines files c.args.tap.now.runs) c.pieces.reading (runs_lines files c.pieces.left) c.finish.result r.1 (ap (runs_lines files) none)
    c.finish.ensures.taps (c.finish.ensures.own (runs_lines files c.args.tap.now.runs)) c.finish.ensures.lines
