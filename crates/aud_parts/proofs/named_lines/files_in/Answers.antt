use Rattle.std.proofs.Common.{ℕ, List, ◌+◌, ◌++◌, ◌∷◌, [], drop, sym, ap, ◌∙◌, option_map}
use Rattle.std.proofs.lemmas.List.{drop_more}
use Rattle.aud_input.specs.declared.input_file.InputFile.{InputFile}
use Rattle.aud_parts.specs.NamedLines.{file_in, files_in}
use Rattle.aud_parts.proofs.NamedLinesLemmas.{files_next, with_files}
use Rattle.aud_parts.proofs.named_lines.files_in.Goals as goal

pub loop-number-preserved : goal.loop-number-preserved
loop-number-preserved c =
    let lines = c.args.lines.now in
    let i = c.loop-number.number in
    let line = c.index-lines-number.result in
    let front = c.loop-number.files in
    let rest = drop (i + 1) lines in
    let named : List ℕ → InputFile = λ name. record { name = name; lines = c.in-Some.count } in
    let here = drop_more lines i line c.loop-number-test.true ∙ ap (λ l. l ∷ rest) (sym c.index-lines-number.is) in
    ap (λ fs. with_files fs (files_in (i + 1 + 1) rest)) (c.in_ok-push.ensures ∙ ap (λ name. front ++ named name ∷ []) c.in_ok-new.ensures)
    ∙ sym (files_next (i + 1) line rest front _ (ap file_in (sym c.as_slice.ensures) ∙ sym c.file_in.ensures ∙ ap (option_map _) c.in-Some.is))
    ∙ ap (λ ls. with_files front (files_in (i + 1) ls)) (sym here)
    ∙ c.loop-number.invariant
