use Rattle.std.proofs.Common.{◌++◌, ◌-◌, ◌<◌, ◌≡◌, ◌∙◌, List, Some, ap, get_or, inl, inr, refl, subst, sym, ℕ}
use Rattle.aud_reader.specs.declared.line.Line.{Line}
use Rattle.aud_parts.specs.Private.RunSteps.{IsFirstText}
use Rattle.aud_parts.specs.TapRuns.{line_with_bytes}
use Rattle.aud_parts.proofs.RunLinesLemmas.{first-of-all}
use Rattle.aud_parts.proofs.tap_index.run_lines.first_line.Goals.{in-Some-next_line, in-None}
use Rattle.aud_parts.proofs.tap_index.run_lines.first_line.Goals as goal

pub returns-clause-line : goal.returns-clause-line
returns-clause-line g c = λ files known readable begun.
    let run = c.in-Some.run'.now in
    let bytes = c.as_slice-bytes.result.now in
    let text = c.match-next_line.text.now in
    let first : IsFirstText bytes text =
    elim c.match-next_line.branch [
      | in-Some-next_line w ↦ rw w.text-is (record { whole = w.in-Some-next_line.ensures.found.1; cut = inl (w.in-Some-next_line.field-0-1.now, w.in-Some-next_line.ensures.found.0) })
      | in-None w ↦ rw w.text-is (record { whole = w.in-None.ensures.none; cut = inr refl })
    ] in
    first-of-all files c.args.runs.now run text c.push_line.new.lines.items c.pop.result (sym c.in-Some.ensures.value) readable begun
    (λ r. c.in_ok-read_first.ensures.text files known r text (subst (λ (bytes : List ℕ). IsFirstText bytes text) c.as_slice-bytes.ensures.value first))
    (c.in_ok-push_line.ensures ∙ ap (λ (ls : List Line). ls ++ line_with_bytes run.number text) c.new-lines.ensures.items)
    (subst (λ (n : ℕ). (d : Line) → 0 < n → c.pop.result ≡ Some (get_or c.push_line.new.lines.items (n - 1) d)) c.push_line.new.lines.ok.0 c.pop.ensures.value)
