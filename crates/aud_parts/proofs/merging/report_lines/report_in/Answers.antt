use Rattle.std.proofs.Common.{◌≡◌, ◌∙◌, Some, None, ap, sym, false, true, option_map}
use Rattle.std.specs.Option.{option_and_then}
use Rattle.aud_parts.specs.ReportLines.{report_in, report_of_lines, totals}
use Rattle.aud_parts.proofs.ReportLemmas.{report-read, totals-said}
use Rattle.aud_parts.proofs.merging.report_lines.report_in.Goals as goal

pub returns-in_default-2 : goal.returns-in_default-2
returns-in_default-2 c =
    let whole : report_of_lines c.deref.result.now ≡ report_in c.args.text.now = ap report_of_lines c.deref.ensures.value ∙ ap (option_and_then report_of_lines) (ap (option_map (λ all. all.items)) (sym c.in-Some.is) ∙ c.in_ok-texts.ensures) in
    report-read c.deref.result.now c.in-Some-split_last.front.now c.in-Some-split_last.last.now None c.in-Some-split_last.ensures.cases.0 (ap (option_map (λ all. all.items)) (sym c.in_default-2.is) ∙ c.in_ok-lines.ensures)
    ∙ whole

pub returns-then-eq : goal.returns-then-eq
returns-then-eq c =
    let lines = c.in-Some-2.lines.items in
    let whole : report_of_lines c.deref.result.now ≡ report_in c.args.text.now = ap report_of_lines c.deref.ensures.value ∙ ap (option_and_then report_of_lines) (ap (option_map (λ all. all.items)) (sym c.in-Some.is) ∙ c.in_ok-texts.ensures) in
    ap Some c.new.ensures
    ∙ totals-said c.eq.result true _ _ c.in-Some-split_last.last.now lines c.eq.ensures c.if-eq.true c.as_slice.ensures (c.as_bytes.ensures.value ∙ c.in_ok-totals.ensures ∙ ap totals c.deref-2.ensures.value)
    ∙ report-read c.deref.result.now c.in-Some-split_last.front.now c.in-Some-split_last.last.now (Some lines) c.in-Some-split_last.ensures.cases.0 (ap (option_map (λ all. all.items)) (sym c.in-Some-2.is) ∙ c.in_ok-lines.ensures)
    ∙ whole

pub returns : goal.returns
returns c =
    let lines = c.in-Some-2.lines.items in
    let whole : report_of_lines c.deref.result.now ≡ report_in c.args.text.now = ap report_of_lines c.deref.ensures.value ∙ ap (option_and_then report_of_lines) (ap (option_map (λ all. all.items)) (sym c.in-Some.is) ∙ c.in_ok-texts.ensures) in
    totals-said c.eq.result false _ _ c.in-Some-split_last.last.now lines c.eq.ensures c.if-eq.false c.as_slice.ensures (c.as_bytes.ensures.value ∙ c.in_ok-totals.ensures ∙ ap totals c.deref-2.ensures.value)
    ∙ report-read c.deref.result.now c.in-Some-split_last.front.now c.in-Some-split_last.last.now (Some lines) c.in-Some-split_last.ensures.cases.0 (ap (option_map (λ all. all.items)) (sym c.in-Some-2.is) ∙ c.in_ok-lines.ensures)
    ∙ whole
