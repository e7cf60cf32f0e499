-- Where a merge gives a report, it is of the lines of the reports.
use Rattle.std.proofs.Common.{◌≡◌, ℕ, zero, suc, ◌+◌, ◌<◌, ◌≤◌, ◌==◌, nat_lt, is_some, List, [], ◌∷◌, ◌++◌, length, map, take, drop, slice_get, unwrap_or, Bool, true, false, cond, Option, Some, None, Result, Ok, Err, refl, sym, ap, ◌∙◌, arith, inl, inr, ◌⊎◌}
use Rattle.std.specs.List.{filter, filter_map, cons_option, list_all}
use Rattle.std.specs.Option.{option_or}
use Rattle.std.proofs.lemmas.Bool.{cases_eq, and_parts, eqb-true, eq-eqb, ne_eqb, ltb-true}
use Rattle.std.proofs.lemmas.Option.{same_Some}
use Rattle.aud_base.specs.Lists.{numbers_from}
use Rattle.aud_node.specs.Stream.{Text}
use Rattle.aud_parts.specs.declared.listing.Listing.{Listing}
use Rattle.aud_parts.specs.declared.listing.ListedSession.{ListedSession}
use Rattle.aud_parts.specs.declared.merging.fault.ReportFault.{ReportFault}
use Rattle.aud_parts.specs.declared.merging.fault.MergeFault.{MergeFault}
use Rattle.aud_parts.specs.declared.merging.fault.MergeFault.TheVariants.{Missing}
use Rattle.aud_parts.specs.declared.merging.Merged.{Merged}
use Rattle.aud_parts.specs.declared.merging.MergeAnswer.TheVariants.{Whole}
use Rattle.aud_parts.specs.Listing.{is_of_part, pids_of_part, pids_by_part}
use Rattle.aud_parts.specs.ReportLines.{ReportLine, pids_of}
use Rattle.aud_parts.specs.Merged.{told, lines_if, lines_on, fault_of, missing_at, faults_in, after_next, merged_lines, own_lines, merged_of, answer_of}
use Rattle.aud_parts.specs.MergeLaws.{beside_part, MergesLines}
use Rattle.aud_parts.proofs.PartLemmas.{get-number, length-numbers}
use Rattle.aud_parts.proofs.NewLemmas.{same-texts}
use Rattle.aud_parts.proofs.SlotLemmas.{told-sound}
use Rattle.aud_parts.proofs.MergeLemmas.{all-numbers}

-- the lines have the pids of the part's sessions
abbrev HasPids : List (List Text) → ℕ → List ReportLine → Type 0
HasPids parts part lines = (own : List Text) × (slice_get parts part ≡ Some own) × (own ≡ pids_of lines)

-- so have those of a report on the part
lines_on-pids : (parts : List (List Text)) (texts : List (List ℕ)) (part : ℕ) (lines : List ReportLine) → lines_on parts texts part ≡ Some lines
    → HasPids parts part lines
lines_on-pids parts [] part lines e = cc
lines_on-pids parts (text ∷ texts) part lines e = go (told parts text) refl e (lines_on-pids parts texts part lines)
  where
    go : (t : Result (ℕ × List ReportLine) ReportFault) → told parts text ≡ t → option_or (lines_if part t) (lines_on parts texts part) ≡ Some lines
        → (lines_on parts texts part ≡ Some lines → HasPids parts part lines) → HasPids parts part lines
    go (Err fault) is at ih = ih at
    go (Ok of) is at ih = pick (of.0 == part) refl at
      where
        pick : (b : Bool) → (of.0 == part) ≡ b → option_or (cond b (Some of.1) None) (lines_on parts texts part) ≡ Some lines → HasPids parts part lines
        pick true same found =
            let (own, there, texts_same) = told-sound parts text of is in
            let lines_are : of.1 ≡ lines = same_Some of.1 lines found in
            (own, ap (slice_get parts) (sym (eqb-true of.0 part same)) ∙ there, same-texts own (pids_of of.1) texts_same ∙ ap pids_of lines_are)
        pick false other found = ih found

-- lines with the pids of the parts' sessions, merged: they have the pids of all, and beside a part stand its own
unmerged : (sessions : List ListedSession) (left : ℕ → List ReportLine) (count : ℕ) → list_all (λ (s : ListedSession). nat_lt s.part count) sessions ≡ true
    → ((k : ℕ) → k < count → pids_of (left k) ≡ pids_of_part sessions k)
    → (pids_of (merged_lines left sessions) ≡ map (λ (s : ListedSession). s.pid) sessions)
    × ((k : ℕ) → k < count → beside_part sessions (merged_lines left sessions) k ≡ left k)
unmerged [] left count within same = (refl, λ k below. sym (empty (left k) (same k below)))
  where
    empty : (ls : List ReportLine) → pids_of ls ≡ [] → ls ≡ []
    empty [] e = refl
    empty (l ∷ ls) e = cc
unmerged (s ∷ sessions) left count within same =
    let here = and_parts (nat_lt s.part count) (list_all (λ (t : ListedSession). nat_lt t.part count) sessions) within in
    let below = ltb-true s.part count here.0 in
    let own : pids_of (left s.part) ≡ s.pid ∷ pids_of_part sessions s.part = same s.part below ∙ ap (λ b. map (λ (t : ListedSession). t.pid) (cond b (s ∷ filter (is_of_part s.part) sessions) (filter (is_of_part s.part) sessions))) (eq-eqb s.part s.part refl) in
    let (line, lines, is, pid, pids) = first (left s.part) s.pid (pids_of_part sessions s.part) own in
    let later = unmerged sessions (after_next s.part left) count here.1 (λ k low. after k low is pids (cases_eq k s.part)) in
    let made : merged_lines left (s ∷ sessions) ≡ line ∷ merged_lines (after_next s.part left) sessions = ap (λ ls. take 1 ls ++ merged_lines (after_next s.part left) sessions) is in (
      ap pids_of made ∙ (λ i. pid i ∷ later.0 i),
      λ k low. ap (λ ls. beside_part (s ∷ sessions) ls k) made ∙ back k line lines is (later.1 k low) (cases_eq k s.part),
    )
  where
    first : (ls : List ReportLine) (p : Text) (ps : List Text) → pids_of ls ≡ p ∷ ps → (l : ReportLine) × (more : List ReportLine) × (ls ≡ l ∷ more) × (l.pid ≡ p) × (pids_of more ≡ ps)
    first [] p ps e = cc
    first (l ∷ more) p ps e = (l, more, refl, cc, cc)

    after : (k : ℕ) → k < count → {line : ReportLine} {lines : List ReportLine} → left s.part ≡ line ∷ lines → pids_of lines ≡ pids_of_part sessions s.part → (k ≡ s.part) ⊎ (k ≡ s.part → ⊥)
        → pids_of (after_next s.part left k) ≡ pids_of_part sessions k
    after k low {line} {lines} is pids (inl at) =
        ap (λ b. pids_of (cond b (drop 1 (left k)) (left k))) (eq-eqb k s.part at) ∙ ap (λ j. pids_of (drop 1 (left j))) at ∙ ap (λ ls. pids_of (drop 1 ls)) is ∙ pids ∙ ap (pids_of_part sessions) (sym at)
    after k low is pids (inr other) =
        ap (λ b. pids_of (cond b (drop 1 (left k)) (left k))) (ne_eqb k s.part other) ∙ same k low
        ∙ ap (λ b. map (λ (t : ListedSession). t.pid) (cond b (s ∷ filter (is_of_part k) sessions) (filter (is_of_part k) sessions))) (ne_eqb s.part k (λ e. other (sym e)))

    back : (k : ℕ) (line : ReportLine) (lines : List ReportLine) → left s.part ≡ line ∷ lines
        → beside_part sessions (merged_lines (after_next s.part left) sessions) k ≡ after_next s.part left k → (k ≡ s.part) ⊎ (k ≡ s.part → ⊥)
        → beside_part (s ∷ sessions) (line ∷ merged_lines (after_next s.part left) sessions) k ≡ left k
    back k line lines is rest (inl at) =
        ap (λ b. cond b (line ∷ beside_part sessions (merged_lines (after_next s.part left) sessions) k) (beside_part sessions (merged_lines (after_next s.part left) sessions) k)) (eq-eqb s.part k (sym at))
        ∙ ap (λ ls. line ∷ ls) (rest ∙ ap (λ b. cond b (drop 1 (left k)) (left k)) (eq-eqb k s.part at) ∙ ap (λ j. drop 1 (left j)) at ∙ ap (drop 1) is)
        ∙ sym is ∙ ap left (sym at)
    back k line lines is rest (inr other) =
        ap (λ b. cond b (line ∷ beside_part sessions (merged_lines (after_next s.part left) sessions) k) (beside_part sessions (merged_lines (after_next s.part left) sessions) k)) (ne_eqb s.part k (λ e. other (sym e)))
        ∙ rest ∙ ap (λ b. cond b (drop 1 (left k)) (left k)) (ne_eqb k s.part other)

nothing : {X : Type 0} (o : Option X) (xs : List X) → cons_option o xs ≡ [] → (o ≡ None) × (xs ≡ [])
nothing None xs e = (refl, e)
nothing (Some x) xs e = cc

-- no fault among consecutive numbers
none-of : {X : Type 0} (f : ℕ → Option X) (first count k : ℕ) → filter_map f (numbers_from first count) ≡ [] → first ≤ k → k < first + count → f k ≡ None
none-of f first zero k none low high = absurd (omega arith)
none-of f first (suc count) k none low high =
    let here = nothing (f first) (filter_map f (numbers_from (suc first) count)) none in
    elim (cases_eq first k) [
      | inl same ↦ ap f (sym same) ∙ here.0
      | inr other ↦ none-of f (suc first) count k here.1 (omega arith) (omega arith)
    ]

append-nothing : {X : Type 0} (xs ys : List X) → xs ++ ys ≡ [] → ys ≡ []
append-nothing [] ys e = e
append-nothing (x ∷ xs) ys e = cc

answered : (faults : List MergeFault) (whole given : Merged) → answer_of faults whole ≡ Whole given → (faults ≡ []) × (whole ≡ given)
answered [] whole given e = (refl, cc)
answered (fault ∷ faults) whole given e = cc

-- the lines that are merged
abbrev merged_of_all : Listing → List (List ℕ) → List ReportLine
merged_of_all l reports = merged_lines (own_lines (pids_by_part l) reports) l.sessions

-- where a merge gives a report, it is of the lines of the reports
pub merges_lines : MergesLines
merges_lines l reports whole within e =
    let (none, is) = answered (faults_in (pids_by_part l) reports) (merged_of (merged_of_all l reports)) whole e in
    let back = unmerged l.sessions (own_lines (pids_by_part l) reports) l.parts within (λ k below. own k below none) in
    record {
      lines = merged_of_all l reports;
      text = ap (λ (m : Merged). m.text) (sym is);
      are_all_yes = ap (λ (m : Merged). m.are_all_yes) (sym is);
      pids = back.0;
      own = all-numbers (λ part. lines_on (pids_by_part l) reports part ≡ Some (beside_part l.sessions (merged_of_all l reports) part)) 0 l.parts
          (λ k low high. there k (omega arith) none ∙ ap Some (sym (back.1 k (omega arith))));
    }
  where
    size : length (pids_by_part l) ≡ l.parts
    size = length-numbers (pids_of_part l.sessions) 0 l.parts

    some : (o : Option (List ReportLine)) (part : ℕ) → cond (is_some o) None (Some (Missing part)) ≡ None → o ≡ Some (unwrap_or o [])
    some None part at = cc
    some (Some ls) part at = refl

    there : (k : ℕ) → k < l.parts → faults_in (pids_by_part l) reports ≡ [] → lines_on (pids_by_part l) reports k ≡ Some (own_lines (pids_by_part l) reports k)
    there k below none =
        some (lines_on (pids_by_part l) reports k) k
        (none-of (missing_at (pids_by_part l) reports) 0 (length (pids_by_part l)) k (append-nothing (filter_map (fault_of (pids_by_part l) reports) (numbers_from 0 (length reports))) _ none) (omega arith) (omega (arith, size)))

    own : (k : ℕ) → k < l.parts → faults_in (pids_by_part l) reports ≡ [] → pids_of (own_lines (pids_by_part l) reports k) ≡ pids_of_part l.sessions k
    own k below none =
        let (pids, at, same) = lines_on-pids (pids_by_part l) reports k (own_lines (pids_by_part l) reports k) (there k below none) in
        sym same ∙ same_Some pids (pids_of_part l.sessions k) (sym at ∙ get-number (pids_of_part l.sessions) l.parts k below)
