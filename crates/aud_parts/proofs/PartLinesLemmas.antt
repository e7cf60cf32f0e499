-- A part is written, tap after tap.
use Rattle.std.proofs.Common.{◌≡◌, ℕ, suc, ◌+◌, ◌-◌, true, false, cond, not, sum_by, List, [], ◌∷◌, ◌++◌, drop, length, map, flat_map, Option, Some, slice_get, refl, sym, ap, ◌∙◌, arith, append_assoc, append-nil}
use Rattle.std.specs.Io.KnownBytes.{Appends}
use Rattle.std.proofs.KnownBytes.{Appends-trans}
use Rattle.std.proofs.lemmas.List.{map-append}
use Rattle.std.proofs.lemmas.List.Concat.{flat_map-append}
use Rattle.std.proofs.lemmas.List.Sums.{sum_by-append, sum_by-cons}
use Rattle.aud_base.specs.Lists.{numbers_from}
use Rattle.aud_base.proofs.Lists.{drop_at}
use Rattle.aud_base.proofs.Numbers.{numbers_from-more}
use Rattle.aud_tap.specs.declared.records.Rec.TheVariants.{Header}
use Rattle.aud_tap.specs.declared.records.TapKind.{TapKind}
use Rattle.aud_tap.specs.declared.records.TapKind.TheVariants.{Client}
use Rattle.aud_tap.specs.declared.records.Version.TheVariants.{Two}
use Rattle.aud_reader.specs.declared.line.Line.{Line}
use Rattle.aud_writer.specs.Written.{line_text}
use Rattle.aud_parts.specs.declared.plan.Plan.{Plan}
use Rattle.aud_parts.specs.declared.tap_index.tap_runs.Run.{Run}
use Rattle.aud_parts.specs.Plan.{has_client}
use Rattle.aud_parts.specs.PartLines.{PartOfTap, client_number, is_server_at, no_part, numbers_of_parts, part_of_client, part_of_server, part_of_tap, parts_from, text_of_parts}
use Rattle.aud_parts.specs.ServerTexts.{ServerTexts}
use Rattle.aud_parts.specs.TapRuns.{TapRuns, ended, runs_lines}
use Rattle.aud_parts.specs.Private.PartSteps.{AreWritten, IsClientWritten}
use Rattle.aud_parts.proofs.PassedLines.{passed-all, passed-more, past-more}

-- ---- a client's tap

abbrev number : Line → ℕ
number line = line.number

-- the lines of a piece more
pub client-on : (files : List (List ℕ)) (tap : TapRuns) (old now new : Option (List ℕ)) (before after more : List ℕ) (left rest : List Run) (lines : List Line) (skipped still : ℕ)
    → IsClientWritten files tap old now before after left skipped → runs_lines files left ≡ lines ++ runs_lines files rest
    → Appends now new (flat_map ended (drop skipped lines)) → more ≡ after ++ map (λ (line : Line). line.number) lines → still ≡ skipped - length lines
    → IsClientWritten files tap old new before more rest still
client-on files tap old now new before after more left rest lines skipped still w same appended added skips =
    let header = line_text tap.name (Header Client Two) in
    let ends : flat_map ended (drop 1 w.done) ++ flat_map ended (drop skipped lines) ≡ flat_map ended (drop 1 (w.done ++ lines)) =
    sym (flat_map-append ended (drop 1 w.done) (drop skipped lines))
    ∙ ap (flat_map ended) (sym (past-more files tap w.done lines left skipped w.passed)) in
    let text : (header ++ 10 ∷ flat_map ended (drop 1 w.done)) ++ flat_map ended (drop skipped lines) ≡ header ++ 10 ∷ flat_map ended (drop 1 (w.done ++ lines)) =
    append_assoc header (10 ∷ flat_map ended (drop 1 w.done)) (flat_map ended (drop skipped lines))
    ∙ ap (λ t. header ++ 10 ∷ t) ends in
    record {
      done = w.done ++ lines;
      passed = passed-more files tap w.done lines left rest skipped still w.passed same skips;
      written = rw (← text) (Appends-trans old now new _ _ w.written appended);
      added =
          added ∙ ap (λ ns. ns ++ map number lines) w.added
          ∙ append_assoc before (map number w.done) (map number lines)
          ∙ ap (λ ns. before ++ ns) (sym (map-append number w.done lines));
    }

-- all lines were written
pub client-ends : (files : List (List ℕ)) (tap : TapRuns) (old new : Option (List ℕ)) (before after : List ℕ) (left : List Run) (skipped : ℕ)
    → IsClientWritten files tap old new before after left skipped → left ≡ []
    → Appends old new (part_of_client files tap).text × (after ≡ before ++ (part_of_client files tap).numbers)
client-ends files tap old new before after left skipped w none =
    let all : w.done ≡ runs_lines files tap.runs = passed-all files tap w.done left skipped w.passed none in
    (rw (← all) w.written, rw (← all) w.added)

-- ---- the taps

-- what a part has of one tap more
pub tap-more : (all left rest : List PartOfTap) (p : PartOfTap) (old now new : Option (List ℕ)) (numbers more : List ℕ) → AreWritten all left old now numbers → left ≡ p ∷ rest
    → Appends now new p.text → more ≡ numbers ++ p.numbers → AreWritten all rest old new more
tap-more all left rest p old now new numbers more w here appended added =
    let text : text_of_parts w.done ++ p.text ≡ text_of_parts (w.done ++ p ∷ []) =
    sym (flat_map-append (λ (q : PartOfTap). q.text) w.done (p ∷ []) ∙ ap (λ t. text_of_parts w.done ++ t) (append-nil p.text)) in
    record {
      done = w.done ++ p ∷ [];
      whole = append_assoc w.done (p ∷ []) rest ∙ ap (λ ps. w.done ++ ps) (sym here) ∙ w.whole;
      written = rw (← text) (Appends-trans old now new _ _ w.written appended);
      added =
          added ∙ ap (λ ns. ns ++ p.numbers) w.added
          ∙ sym (flat_map-append (λ (q : PartOfTap). q.numbers) w.done (p ∷ []) ∙ ap (λ ns. numbers_of_parts w.done ++ ns) (append-nil p.numbers));
    }

-- how many taps of clients stand before one more
number-more : (kinds : List (Option TapKind)) (i : ℕ)
    → client_number kinds (i + 1) ≡ client_number kinds i + cond (not (is_server_at kinds i)) 1 0
number-more kinds i =
    let one : ℕ → ℕ = λ before. cond (not (is_server_at kinds before)) 1 0 in
    omega (arith, ap (sum_by one) (numbers_from-more i) ∙ sum_by-append one (numbers_from 0 i) (i ∷ []), sum_by-cons one i [])

pub number-server : (kinds : List (Option TapKind)) (i : ℕ) → is_server_at kinds i ≡ true → client_number kinds (i + 1) ≡ client_number kinds i
number-server kinds i server = grind (arith, server, number-more kinds i)

pub number-client : (kinds : List (Option TapKind)) (i : ℕ) → is_server_at kinds i ≡ false → client_number kinds (i + 1) ≡ client_number kinds i + 1
number-client kinds i client = grind (arith, client, number-more kinds i)

module _ (files : List (List ℕ)) (servers : ServerTexts) (plan : Plan) (part : ℕ) (kinds : List (Option TapKind)) (taps : List TapRuns) (i : ℕ) (tap : TapRuns) (at : slice_get taps i ≡ Some tap) where
  -- what a part has of the tap at this place, and of those after it
  here : parts_from files servers plan part kinds i (drop i taps) ≡ part_of_tap files servers plan part kinds i tap ∷ parts_from files servers plan part kinds (i + 1) (drop (i + 1) taps)
  here = let next : i + 1 ≡ suc i = omega arith in rw (drop_at taps i tap at, next) refl

  -- where it is the stream's or a node's
  pub from-server : is_server_at kinds i ≡ true
      → parts_from files servers plan part kinds i (drop i taps) ≡ part_of_server servers tap.name ∷ parts_from files servers plan part kinds (i + 1) (drop (i + 1) taps)
  from-server server = rw server at here

  -- where it is a client's that the part has
  pub from-client : (number : ℕ) → number ≡ client_number kinds i → is_server_at kinds i ≡ false → has_client plan part number ≡ true
      → parts_from files servers plan part kinds i (drop i taps) ≡ part_of_client files tap ∷ parts_from files servers plan part kinds (i + 1) (drop (i + 1) taps)
  from-client number is client has = rw (client, ap (has_client plan part) (sym is) ∙ has) at here

  -- where it is another
  pub from-other : (number : ℕ) → number ≡ client_number kinds i → is_server_at kinds i ≡ false → has_client plan part number ≡ false
      → parts_from files servers plan part kinds i (drop i taps) ≡ no_part ∷ parts_from files servers plan part kinds (i + 1) (drop (i + 1) taps)
  from-other number is client has = rw (client, ap (has_client plan part) (sym is) ∙ has) at here
