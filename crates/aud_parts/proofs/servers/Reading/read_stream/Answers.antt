use Rattle.std.proofs.Common.{IfOk, Some, ap, option_map, subst, ◌∙◌}
use Rattle.aud_tap.specs.declared.taps.Records.TheVariants as records
use Rattle.aud_tap.specs.declared.taps.Tap.{Tap}
use Rattle.aud_reader.specs.Bundle.{tap_named}
use Rattle.aud_reader.specs.OwnLines.{HaveTheirOwnLines}
use Rattle.aud_parts.specs.TapRuns.{runs_lines}
use Rattle.aud_parts.specs.Private.ServerSteps.{stream_recs}
use Rattle.aud_parts.proofs.ServersLemmas.{added, stream-own}
use Rattle.aud_parts.proofs.servers.Reading.read_stream.Goals as goal

pub returns-in-Ok-clause-read : goal.returns-in-Ok-clause-read
returns-in-Ok-clause-read g c = λ files known may header stream none.
    let tap = c.args.tap.now in
    let lines = runs_lines files tap.runs in
    let is = c.in_ok-read.ensures.tap files known may.readable in
    let own = subst (λ r. IfOk r (HaveTheirOwnLines lines)) c.in-Ok.is is.own in
    let entries =
    c.in_ok-entries-in-Ok.ensures
    ∙ ap (λ taps. stream_recs (option_map (λ (t : Tap). t.records) (tap_named c.name-in-Ok.result.now taps))) c.as_slice.ensures
    ∙ ap (λ name. stream_recs (option_map (λ (t : Tap). t.records) (tap_named name c.in-Ok.read))) c.name-in-Ok.ensures.value in
    let made : Tap = record { name = c.in_ok-name-in-Ok.name; version = c.args.header.now.version; records = records.Stream c.in_ok-entries-in-Ok.entries } in
    added files tap c.args.self.now c.add.new.self made _
    (stream-own files tap made c.args.header.now.line c.in-Ok.read own header.first (header.says ∙ ap (λ of. Some (of, c.args.header.now.version)) stream) (c.in_ok-name-in-Ok.ensures ∙ c.name.ensures.value) (ap records.Stream entries))
    is.numbers c.in_ok-add-in-Ok.ensures.taps c.in_ok-add-in-Ok.ensures.lines c.in_ok-add-in-Ok.ensures.kinds
