use Rattle.std.proofs.Common.{◌∙◌, ap, arith, inl, inr, sym}
use Rattle.aud_reader.specs.Lines.{has_newline}
use Rattle.aud_parts.proofs.RunLinesLemmas.{first-front, found-newline, on_ok-both}
use Rattle.aud_parts.proofs.tap_index.run_lines.read_first.Goals as goal

pub returns-then-front-run-clause-text : goal.returns-then-front-run-clause-text
returns-then-front-run-clause-text g c = λ files known r.
    first-front files 65536 c.args.run.now c.front_of-front.result c.read_run.new.bytes.items c.front_of-front.ensures (c.in_ok-read_run.ensures.run files known) c.in_ok-read_run.ensures.size
    (inl c.if-front-run.true) r

pub returns-in-Some-clause-text : goal.returns-in-Some-clause-text
returns-in-Some-clause-text g c = λ files known r.
    let found = c.in-Some.ensures.found in
    first-front files 65536 c.args.run.now c.front_of-front.result c.read_run.new.bytes.items c.front_of-front.ensures (c.in_ok-read_run.ensures.run files known) c.in_ok-read_run.ensures.size
    (inr (inl (ap has_newline (sym c.as_slice.ensures.value) ∙ found-newline _ _ _ found.0))) r

pub returns-clause-text : goal.returns-clause-text
returns-clause-text g c = λ files known r.
    on_ok-both c.read_run-2.result
    (λ bytes size. first-front files 8388608 c.args.run.now c.front_of.result c.read_run-2.new.bytes.items c.front_of.ensures bytes size (inr (inr (omega arith))) r)
    (c.read_run-2.ensures.run files (c.in_ok-read_run.ensures.source ∙ known)) c.read_run-2.ensures.size
