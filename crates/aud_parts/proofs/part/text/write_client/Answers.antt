use Rattle.std.proofs.Common.{◌≡◌, ◌-◌, ◌++◌, ◌∙◌, List, ap, drop, flat_map, length, map, subst, arith}
use Rattle.std.specs.Io.KnownBytes.{Appends}
use Rattle.std.proofs.lemmas.Option.{MatchOption-at_some}
use Rattle.aud_reader.specs.declared.line.Line.{Line}
use Rattle.aud_input.specs.LineRuns.{lines_of_runs}
use Rattle.aud_parts.specs.TapRuns.{ended}
use Rattle.aud_parts.proofs.PartLinesLemmas.{client-ends, client-on}
use Rattle.aud_parts.proofs.TapReadingLemmas.{none-left}
use Rattle.aud_parts.proofs.part.text.write_client.Goals as goal

pub pieces-preserved : goal.pieces-preserved
pieces-preserved g c = record {
  source = c.in_ok-lines.ensures.source ∙ c.pieces.invariant.source;
  written = λ files known readable.
      let r = c.pieces.invariant.written files known readable in
      let given = MatchOption-at_some _ _ _ c.in-Some.is (c.in_ok-lines.ensures.lines files (c.pieces.invariant.source ∙ known) r.0) in
      let lines = c.in-Some.lines.items in
      let skipped = c.pieces.skipped in
      let past = c.lines_past.ensures ∙ ap (drop skipped) c.deref-in-Some.ensures.value in
      let text : c.as_slice-in-Some.result.now ≡ flat_map ended (drop skipped lines) =
      c.as_slice-in-Some.ensures.value ∙ c.in_ok-push_ended.ensures
      ∙ ap (λ bytes. bytes ++ flat_map ended c.lines_past.result.now) c.clear.ensures.items ∙ ap (flat_map ended) past in
      let still : c.saturating_sub-skipped.result ≡ skipped - length lines = grind (arith, c.saturating_sub-skipped.ensures, c.len.ensures) in (
        given.readable,
        client-on files c.args.tap.now _ _ _ _ _ _ c.pieces.left c.next_lines.new.self lines skipped c.saturating_sub-skipped.result r.1 given.same
            (subst (Appends _ _) text c.in_ok-write_out-2.ensures.ok)
            (c.in_ok-push_numbers.ensures ∙ ap (λ (ls : List Line). lines_of_runs c.pieces.runs ++ map (λ (line : Line). line.number) ls) c.deref.ensures.value)
            still,
      );
}

pub returns-clause-text : goal.returns-clause-text
returns-clause-text g c = λ files known readable.
    let r = c.pieces.invariant.written files known readable in
    let none = none-left _ _ c.in_ok-lines.field-0 c.in_default.not-Some (c.in_ok-lines.ensures.lines files (c.pieces.invariant.source ∙ known) r.0) in
    (client-ends files c.args.tap.now _ _ _ _ c.pieces.left c.pieces.skipped r.1 none).0

pub returns-clause-lines : goal.returns-clause-lines
returns-clause-lines g c = λ files known readable.
    let r = c.pieces.invariant.written files known readable in
    let none = none-left _ _ c.in_ok-lines.field-0 c.in_default.not-Some (c.in_ok-lines.ensures.lines files (c.pieces.invariant.source ∙ known) r.0) in
    (client-ends files c.args.tap.now _ _ _ _ c.pieces.left c.pieces.skipped r.1 none).1
