use Rattle.std.proofs.Common.{◌≡◌, ◌+◌, ◌++◌, ◌∷◌, [], length, take, refl, sym, ap, ◌∙◌, subst, arith}
use Rattle.aud_reader.specs.Lines.{line_pieces}
use Rattle.aud_parts.specs.TapRuns.{lines_with_bytes}
use Rattle.aud_parts.specs.Private.RunSteps.{GivesLines}
use Rattle.aud_parts.proofs.RunLinesLemmas.{FrontRead, counted-front, gives-none, gives-some, goes-front}
use Rattle.aud_parts.proofs.tap_index.run_lines.read_front.Goals as goal

pub returns-then-from-run-clause-lines : goal.returns-then-from-run-clause-lines
returns-then-from-run-clause-lines g c = λ files known r.
    let run = c.args.run.now in
    let bytes = c.as_slice-bytes.result.now in
    let end = c.whole_end-end.result in
    let f : FrontRead files run c.front_of-front.result bytes end = record {
      front_is = c.front_of-front.ensures;
      bytes_are = c.as_slice-bytes.ensures.value ∙ c.in_ok-read_run.ensures.run files known;
      size = ap length c.as_slice-bytes.ensures.value ∙ c.in_ok-read_run.ensures.size;
      within = c.whole_end-end.ensures.within;
      last = c.whole_end-end.ensures.last;
      cut = c.whole_end-end.ensures.cut;
    } in
    let small = counted-front files run c.front_of-front.result bytes end f r in
    let read = lines_with_bytes run.number (line_pieces (take end bytes)) in
    let lines : c.push_lines.new.lines.items ≡ read = c.in_ok-number.ensures.lines small ∙ ap (λ ls. ls ++ read) c.new-lines.ensures.items in
    let from : c.saturating_add-from.result ≡ run.from + end = omega arith in
    subst (λ ls. GivesLines files (run ∷ []) ls (record run { from = c.saturating_add-from.result; number = c.in_ok-number.number } ∷ [])) (sym lines)
    (gives-some files run (record run { from = c.saturating_add-from.result; number = c.in_ok-number.number }) read
    (goes-front files run c.front_of-front.result bytes end c.saturating_add-from.result c.in_ok-number.number f from (c.in_ok-number.ensures.next small) r))

pub returns-clause-lines : goal.returns-clause-lines
returns-clause-lines g c = λ files known r.
    let run = c.args.run.now in
    let bytes = c.as_slice-bytes.result.now in
    let end = c.whole_end-end.result in
    let f : FrontRead files run c.front_of-front.result bytes end = record {
      front_is = c.front_of-front.ensures;
      bytes_are = c.as_slice-bytes.ensures.value ∙ c.in_ok-read_run.ensures.run files known;
      size = ap length c.as_slice-bytes.ensures.value ∙ c.in_ok-read_run.ensures.size;
      within = c.whole_end-end.ensures.within;
      last = c.whole_end-end.ensures.last;
      cut = c.whole_end-end.ensures.cut;
    } in
    let small = counted-front files run c.front_of-front.result bytes end f r in
    let read = lines_with_bytes run.number (line_pieces (take end bytes)) in
    let lines : c.push_lines.new.lines.items ≡ read = c.in_ok-number.ensures.lines small ∙ ap (λ ls. ls ++ read) c.new-lines.ensures.items in
    subst (λ ls. GivesLines files (run ∷ []) ls []) (sym lines)
    (gives-none files run (run.from + end) c.in_ok-number.number read (omega arith)
    (goes-front files run c.front_of-front.result bytes end (run.from + end) c.in_ok-number.number f refl (c.in_ok-number.ensures.next small) r))
