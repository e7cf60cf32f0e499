-- Of what is read of files a line is kept for each record.
use Rattle.std.proofs.Common.{◌≡◌, ◌≤◌, ◌+◌, ℕ, Bool, List, length, true, refl, sym, ap, ◌∙◌, subst, Option, Some, None, is_some, Result, Ok, Err, slice_get}
use Rattle.std.specs.List.{All}
use Rattle.std.specs.Option.{option_and_then}
use Rattle.std.proofs.lemmas.List.Concat.{length-flat_map}
use Rattle.std.proofs.lemmas.Option.{get_or_from_slice_get, slice_get_within}
use Rattle.std.proofs.lemmas.Bool.{true≢false}
use Rattle.aud_tap.specs.declared.taps.Tap.{Tap}
use Rattle.aud_reader.specs.declared.fault.ReadFault.{ReadFault}
use Rattle.aud_reader.specs.Bundle.{taps_of}
use Rattle.aud_reader.specs.Lines.{lines_of, line_pieces}
use Rattle.aud_input.specs.declared.input.Layout.TheVariants.{Bundle}
use Rattle.aud_input.specs.declared.line_runs.LineRun.{LineRun}
use Rattle.aud_input.specs.declared.reading.Recorded.{Recorded}
use Rattle.aud_input.specs.declared.reading.Size.{Size}
use Rattle.aud_input.specs.Files.{AreRecorded, taps_read}
use Rattle.aud_input.specs.Input.{InputSeen, input_of, bundle_in, certificates_in}
use Rattle.aud_input.specs.LineRuns.{AreKnown, NamesLines, taps_named, line_in, lines_of_runs}
use Rattle.aud_input.specs.RecordLines.{RecordsHaveTheirLines}
use Rattle.aud_input.specs.Sources.{LinesAreThoseOfFiles, joined}
use Rattle.aud_input.specs.TapLines.{TapLines, kept_line, max_numbered}
use Rattle.aud_laws.specs.FaultRows.{KnowsEachRecord}
use Rattle.aud_laws.proofs.AnyOrder.InputReadings.{all-lines, whole}

pub read_are_known : RecordsHaveTheirLines → LinesAreThoseOfFiles → (lefts : List (Option (List ℕ))) (read : Recorded) → AreRecorded lefts read → read.size.lines ≤ max_numbered
    → KnowsEachRecord read.taps read.lines
read_are_known have are lefts read recorded few place number tap rec there at = go (input_of Bundle text) refl recorded.taps
  where
    text : List ℕ
    text = joined recorded.files

    count : length (line_pieces text) ≡ read.size.lines
    count = ap length (are recorded.files) ∙ length-flat_map line_pieces recorded.files ∙ ap (λ (size : Size). size.lines) (sym recorded.size)

    go : (r : Result InputSeen ReadFault) → input_of Bundle text ≡ r → taps_read r ≡ Ok read.taps → is_some (kept_line read.lines place number) ≡ true
    go (Err fault) e is = absurd (cc)
    go (Ok input) e is =
        let lines = (lines_of text).lines in
        let its = whole (lines_of text).fault (certificates_in Bundle lines) (taps_of (bundle_in Bundle lines)) input e in
        let taps : taps_of lines ≡ Ok read.taps = ap taps_of (sym (all-lines lines)) ∙ its.taps ∙ is in
        let line = have text read.taps its.none taps (subst (λ n. n ≤ max_numbered) (sym count) few) place number tap rec there at in
        ap (λ ls. is_some (kept_line ls place number)) (sym recorded.lines) ∙ ap is_some line.kept

-- what holds of each holds of one of them
at_each : {X : Type 0} (P : X → Type 0) (xs : List X) (k : ℕ) (x : X) → All P xs → slice_get xs k ≡ Some x → P x
at_each P xs k x all at = subst P (get_or_from_slice_get xs k x x at) (all k x (slice_get_within xs k x at))

-- and of lines of a part that are named as those of the input
pub named_are_known : NamesLines → (runs : List LineRun) (taps : List Tap) (lines : List TapLines) → All (AreKnown runs) lines → KnowsEachRecord taps lines
    → KnowsEachRecord taps (taps_named runs lines)
named_are_known laws runs taps lines are known place number tap rec there at = by_tap (slice_get lines place) refl (known place number tap rec there at)
  where
    named : ℕ → Bool
    named line = is_some (line_in (lines_of_runs runs) line)

    by_line : (its : TapLines) → slice_get lines place ≡ Some its → (o : Option ℕ) → slice_get its.numbers (number + 1) ≡ o → is_some o ≡ true
        → is_some (option_and_then (line_in (lines_of_runs runs)) o) ≡ true
    by_line its here None e is = is
    by_line its here (Some line) e is = at_each (λ n. named n ≡ true) its.numbers (number + 1) line (at_each (AreKnown runs) lines place its are here) e

    by_tap : (o : Option TapLines) → slice_get lines place ≡ o → is_some (kept_line lines place number) ≡ true → is_some (kept_line (taps_named runs lines) place number) ≡ true
    by_tap None here is = absurd (true≢false (sym is ∙ ap (λ o. is_some (option_and_then (λ (t : TapLines). slice_get t.numbers (number + 1)) o)) here))
    by_tap (Some its) here is =
        let line : kept_line lines place number ≡ slice_get its.numbers (number + 1) = ap (option_and_then (λ (t : TapLines). slice_get t.numbers (number + 1))) here in
        ap is_some (laws.known runs lines place number its here (at_each (AreKnown runs) lines place its are here))
        ∙ ap (λ o. is_some (option_and_then (line_in (lines_of_runs runs)) o)) line
        ∙ by_line its here (slice_get its.numbers (number + 1)) refl (sym (ap is_some line) ∙ is)
