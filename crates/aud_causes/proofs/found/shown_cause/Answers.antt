use Rattle.std.proofs.Common.{◌∙◌, ◌++◌, ap, map}
use Rattle.std.specs.Option.{option_copied}
use Rattle.aud_causes.specs.Filled.{figure_text, filled}
use Rattle.aud_causes.specs.Records.{lines_at, place_of}
use Rattle.aud_causes.specs.Texts.{texts_told}
use Rattle.aud_causes.proofs.found.shown_cause.Goals as goal

pub returns : goal.returns
returns c =
    let here = c.args.sheet.now.recording.now in
    let lines = c.args.sheet.now.lines.now in
    let numbers = c.args.numbers.now in
    let words = c.words_of-words.ensures in
    let shown = c.shown_of-shown.ensures in
    let lines_are =
    c.in_ok-lines.ensures ∙ ap (lines_at here lines (place_of (option_copied c.args.tap)) numbers) shown.records in
    let why_is = c.in_ok-why.ensures ∙ (λ i. filled (words.why i) (map (figure_text (c.logs.ensures i)) (shown.figures i))) in
    let told_is = c.in_ok-push_texts.ensures ∙ (λ i. why_is i ++ texts_told here (c.place_of.ensures i) numbers c.args.cause) in
    λ i. record { id = words.id i; state = c.args.state; lines = lines_are i; why = told_is i; todo = words.todo i }
