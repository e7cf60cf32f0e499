-- A tap is read, line after line.
use Rattle.std.proofs.Common.{◌≡◌, ℕ, zero, suc, ◌+◌, ◌^◌, ◌<◌, List, [], ◌∷◌, ◌++◌, length, map, take, get_or, Result, Ok, Err, IfOk, Option, Some, None, refl, sym, ap, ◌∙◌, subst, arith, append_assoc, append-nil}
use Rattle.std.proofs.lemmas.List.{flat_map_more, map-append, take_more}
use Rattle.std.proofs.lemmas.List.Elements.{All-push}
use Rattle.std.specs.List.{All, AllByRecursion, flat_map}
use Rattle.std.specs.Option.{MatchOption}
use Rattle.aud_base.specs.declared.run_fault.RunFault.{RunFault}
use Rattle.aud_reader.specs.declared.line.Line.{Line}
use Rattle.aud_reader.specs.Lines.{line_pieces}
use Rattle.aud_reader.specs.Bundle.{taps_of, taps_to_come}
use Rattle.aud_reader.specs.OwnLines.{HaveTheirOwnLines}
use Rattle.aud_input.specs.LineRuns.{lines_of_runs}
use Rattle.aud_parts.specs.declared.tap_index.tap_reading.HeldRun.{HeldRun}
use Rattle.aud_parts.specs.declared.tap_index.tap_reading.TapRead.{TapRead}
use Rattle.aud_parts.specs.declared.tap_index.tap_reading.TapReading.{TapReading}
use Rattle.aud_parts.specs.declared.tap_index.tap_runs.Run.{Run}
use Rattle.aud_parts.specs.TapRuns.{IsReadable, lines_with_bytes, run_bytes, run_lines, runs_lines}
use Rattle.aud_parts.specs.Private.TapsRead.{HoldsLines, IsReadOf, IsReading, held_lines}

abbrev number : Line → ℕ
number line = line.number

-- lines more were read
pub reading-on : (all : List Line) (old new : TapReading) (left read after : List Line) → IsReading all old left → left ≡ read ++ after
    → taps_to_come new.reader after ≡ taps_to_come old.reader (read ++ after) → lines_of_runs new.lines ≡ lines_of_runs old.lines ++ map (λ (line : Line). line.number) read
    → IsReading all new after
reading-on all old new left read after r cut taps numbers = record {
  taps = taps ∙ ap (taps_to_come old.reader) (sym cut) ∙ r.taps;
  numbers =
      ap (λ ns. ns ++ map number after) numbers
      ∙ append_assoc (lines_of_runs old.lines) (map number read) (map number after)
      ∙ ap (λ ns. lines_of_runs old.lines ++ ns) (sym (map-append number read after) ∙ ap (map number) (sym cut))
      ∙ r.numbers;
}

-- all lines were read
pub reading-ends : (all : List Line) (reading : TapReading) (left : List Line) (result' : Result TapRead RunFault) → IsReading all reading left → left ≡ []
    → IfOk result' (λ tap. tap.read ≡ taps_to_come reading.reader []) → (taps_to_come reading.reader [] ≡ taps_of all → IfOk result' (λ tap. IfOk tap.read (HaveTheirOwnLines all)))
    → IfOk result' (λ tap. tap.lines ≡ reading.lines) → IfOk result' (IsReadOf all)
reading-ends all reading left (Ok tap) r none taps own lines =
    let is : taps_to_come reading.reader [] ≡ taps_of all = ap (taps_to_come reading.reader) (sym none) ∙ r.taps in
    record {
      taps = taps ∙ is;
      own = own is;
      numbers =
          ap lines_of_runs lines ∙ sym (append-nil (lines_of_runs reading.lines))
          ∙ ap (λ (ls : List Line). lines_of_runs reading.lines ++ map number ls) (sym none) ∙ r.numbers;
    }
reading-ends all reading left (Err e) r none taps own lines = tt

-- nothing was left
pub none-left : {X : Type 0} (P : Type 0) (Q : X → Type 0) (o : Option X) → ((x : X) → o ≡ Some x → ⊥) → MatchOption o P Q → P
none-left P Q None none p = p
none-left P Q (Some x) none q = absurd (none x refl)

-- ---- runs that are held

all-at : {X : Type 0} (P : X → Type 0) (xs : List X) (i : ℕ) (d : X) → i < length xs → AllByRecursion P xs → P (get_or xs i d)
all-at P [] i d within all = absurd (omega arith)
all-at P (x ∷ xs) zero d within all = all.0
all-at P (x ∷ xs) (suc i) d within all = all-at P xs i d (omega arith) all.1

-- one more
pub held-more : (files : List (List ℕ)) (runs : List Run) (i : ℕ) (d : Run) (held new : List HeldRun) (more : HeldRun) → i < length runs
    → AllByRecursion (IsReadable files) runs → HoldsLines (runs_lines files (take i runs)) held → more.number ≡ (get_or runs i d).number → more.bytes.items ≡ run_bytes files (get_or runs i d)
    → new ≡ held ++ more ∷ [] → HoldsLines (runs_lines files (take (i + 1) runs)) new
held-more files runs i d held new more within readable h numbered bytes pushed =
    let run = get_or runs i d in
    let own : held_lines more ≡ run_lines files run = ap (λ n. lines_with_bytes n (line_pieces more.bytes.items)) numbered ∙ ap (λ l. lines_with_bytes run.number (line_pieces l)) bytes in
    let ready : IsReadable files run = all-at (IsReadable files) runs i d within readable in
    let size = ap length bytes in
    let counted = ready.counted in
    record {
      are =
          ap (flat_map held_lines) pushed
          ∙ sym (flat_map_more held_lines [] held more)
          ∙ ap (λ ls. ls ++ held_lines more) h.are
          ∙ ap (λ ls. runs_lines files (take i runs) ++ ls) own
          ∙ flat_map_more (run_lines files) [] (take i runs) run
          ∙ ap (runs_lines files) (sym (take_more runs i d within));
      counted =
          subst (All (λ (held : HeldRun). held.number + length held.bytes.items < 2 ^ 64)) (sym pushed)
          (All-push (λ (held : HeldRun). held.number + length held.bytes.items < 2 ^ 64) held more h.counted (omega (arith, size, counted, numbered)));
    }
