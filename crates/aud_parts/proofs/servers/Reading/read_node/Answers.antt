use Rattle.std.proofs.Common.{◌≡◌, ◌-◌, ◌++◌, List, Some, ap, drop, length, map, refl, ◌∙◌, arith}
use Rattle.std.proofs.lemmas.Option.{MatchOption-at_some}
use Rattle.aud_input.specs.LineRuns.{lines_of_runs}
use Rattle.aud_reader.specs.declared.line.Line.{Line}
use Rattle.aud_reader.specs.OwnLines.{records_for}
use Rattle.aud_tap.specs.declared.records.Rec.TheVariants as rec
use Rattle.aud_tap.specs.declared.taps.Records.TheVariants as records
use Rattle.aud_tap.specs.declared.taps.Tap.{Tap}
use Rattle.aud_parts.specs.ServersRead.{header_for}
use Rattle.aud_parts.proofs.ServersLemmas.{added, log-on, log-own, no-some}
use Rattle.aud_parts.proofs.TapReadingLemmas.{none-left}
use Rattle.aud_parts.proofs.servers.Reading.read_node.Goals as goal

pub pieces-preserved : goal.pieces-preserved
pieces-preserved g c = record {
  source = c.in_ok-lines.ensures.source ∙ c.pieces.invariant.source;
  read = λ files known may header node.
      let tap = c.args.tap.now in
      let r = c.pieces.invariant.read files known may header node in
      let given = MatchOption-at_some _ _ _ c.in-Some.is (c.in_ok-lines.ensures.lines files (c.pieces.invariant.source ∙ known) r.0) in
      let lines = c.in-Some.lines.items in
      let skipped = c.pieces.skipped in
      let past = c.lines_past-others.ensures ∙ ap (drop skipped) c.deref-in-Some.ensures.value in
      let added =
      c.in_ok-refused.ensures c.args.header.now.version (ap (λ name. header_for name c.args.header.now.line) c.name.ensures.value ∙ header.says ∙ ap (λ of. Some (of, c.args.header.now.version)) node) (no-some _ c.in_default-refused.not-Some)
      ∙ ap (λ name. map rec.Node c.pieces.log ++ records_for name c.lines_past-others.result.now) c.name.ensures.value
      ∙ ap (λ ls. map rec.Node c.pieces.log ++ records_for tap.name ls) past in
      let still : c.saturating_sub-skipped.result ≡ skipped - length lines = grind (arith, c.saturating_sub-skipped.ensures, c.len.ensures) in (
        given.readable,
        log-on files tap c.pieces.left c.next_lines.new.self lines skipped c.saturating_sub-skipped.result c.pieces.log c.read_lines.new.log c.pieces.runs c.push_numbers.new.runs r.1 given.same
            added
            (c.in_ok-push_numbers.ensures ∙ ap (λ (ls : List Line). lines_of_runs c.pieces.runs ++ map (λ (line : Line). line.number) ls) c.deref.ensures.value)
            still,
      );
}

pub returns-clause-read : goal.returns-clause-read
returns-clause-read g c = λ files known may header node none.
    let tap = c.args.tap.now in
    let r = c.pieces.invariant.read files known may header node in
    let all = none-left _ _ c.in_ok-lines.field-0 c.in_default.not-Some (c.in_ok-lines.ensures.lines files (c.pieces.invariant.source ∙ known) r.0) in
    let made : Tap = record { name = c.in_ok-name.name; version = c.args.header.now.version; records = records.Node c.pieces.log } in
    let own = log-own files tap c.pieces.left c.pieces.skipped c.pieces.log c.pieces.runs c.args.header.now.line made r.1 all header.first (header.says ∙ ap (λ of. Some (of, c.args.header.now.version)) node) (c.in_ok-name.ensures ∙ c.name-2.ensures.value) refl in
    added files tap c.args.self.now c.add.new.self made c.pieces.runs own.0 own.1 c.in_ok-add.ensures.taps c.in_ok-add.ensures.lines c.in_ok-add.ensures.kinds
