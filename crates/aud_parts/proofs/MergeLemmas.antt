-- Of the reports on the parts a merge gives the report on the whole.
use Rattle.std.proofs.Common.{◌≡◌, ℕ, zero, suc, ◌+◌, ◌<◌, ◌≤◌, ◌==◌, ◌&&◌, is_some, List, [], ◌∷◌, ◌++◌, length, map, take, get_or, unwrap_or, Bool, true, false, cond, Option, Some, None, option_map, Result, Ok, refl, sym, ap, ◌∙◌, arith, inl, inr, ◌⊎◌, sum_by}
use Rattle.std.specs.Prelude.{IsPermutation}
use Rattle.std.specs.List.{All, filter, filter_map, list_all}
use Rattle.std.specs.Option.{option_and_then, option_or}
use Rattle.std.proofs.lemmas.Bool.{cases_eq, and_from, and_parts, eq-eqb, ne_eqb}
use Rattle.std.proofs.lemmas.Option.{slice_get_read}
use Rattle.std.proofs.lemmas.List.{get_or_default, length-map}
use Rattle.std.proofs.lemmas.List.Elements.{All-head, All-tail, All-cons, All-map, All-get_or}
use Rattle.std.proofs.lemmas.List.Sorted.{All-permutation, sum_by-IsPermutation}
use Rattle.std.proofs.lemmas.List.Sums.{sum_by-cons, sum_by_more_le}
use Rattle.aud_base.specs.Lists.{numbers_from}
use Rattle.aud_node.specs.Stream.{Text}
use Rattle.aud_tap.specs.WellFormed.{is_session_id}
use Rattle.aud_verdict.specs.declared.verdict.Verdict.{Verdict}
use Rattle.aud_verdict.specs.declared.verdict.Verdict.TheVariants.{Yes, No}
use Rattle.aud_verdict.specs.declared.verdict.SessionVerdict.{SessionVerdict}
use Rattle.aud_verdict.specs.Report.{report_text}
use Rattle.aud_parts.specs.declared.listing.Listing.{Listing}
use Rattle.aud_parts.specs.declared.listing.ListedSession.{ListedSession}
use Rattle.aud_parts.specs.declared.merging.fault.ReportFault.{ReportFault}
use Rattle.aud_parts.specs.declared.merging.fault.ReportFault.TheVariants.{Doubled}
use Rattle.aud_parts.specs.declared.merging.fault.MergeFault.TheVariants.{Report, Missing}
use Rattle.aud_parts.specs.declared.merging.MergeAnswer.TheVariants.{Whole}
use Rattle.aud_parts.specs.Listing.{is_of_part, pids_of_part, pids_by_part, are_within, are_formed, are_new, is_full, is_listing}
use Rattle.aud_parts.specs.ReportLines.{ReportLine, pids_of}
use Rattle.aud_parts.specs.Merged.{is_refusal, told, lines_if, lines_on, fault_after, fault_of, missing_at, faults_in, after_next, merged_lines, own_lines, merged_of, answer_of}
use Rattle.aud_parts.specs.MergeLaws.{beside_part, report_on_part, is_one_line, pids_of_entries, pids_listed, MergesReports}
use Rattle.aud_parts.proofs.PartLemmas.{length-numbers}
use Rattle.aud_parts.proofs.NewLemmas.{own-part}
use Rattle.aud_parts.proofs.ReportLemmas.{as_line, report-back, all-lines, pids-lines, text-lines}
use Rattle.aud_parts.proofs.ReportLemmas as report
use Rattle.aud_parts.proofs.SlotLemmas.{merged-same}

-- ---- what stands beside a part

beside-map : {X Y : Type 0} (f : X → Y) (sessions : List ListedSession) (xs : List X) (part : ℕ) → beside_part sessions (map f xs) part ≡ map f (beside_part sessions xs part)
beside-map f [] xs part = refl
beside-map f (s ∷ sessions) [] part = refl
beside-map f (s ∷ sessions) (x ∷ xs) part = go (is_of_part part s) (beside-map f sessions xs part)
  where
    go : (b : Bool) → beside_part sessions (map f xs) part ≡ map f (beside_part sessions xs part)
        → cond b (f x ∷ beside_part sessions (map f xs) part) (beside_part sessions (map f xs) part) ≡ map f (cond b (x ∷ beside_part sessions xs part) (beside_part sessions xs part))
    go true ih = ap (λ ys. f x ∷ ys) ih
    go false ih = ih

-- all pass where all passed
beside-all : {X : Type 0} (p : X → Bool) (sessions : List ListedSession) (xs : List X) (part : ℕ) → list_all p xs ≡ true → list_all p (beside_part sessions xs part) ≡ true
beside-all p [] xs part all = refl
beside-all p (s ∷ sessions) [] part all = refl
beside-all p (s ∷ sessions) (x ∷ xs) part all =
    let parts = and_parts (p x) (list_all p xs) all in
    go (is_of_part part s) parts.0 (beside-all p sessions xs part parts.1)
  where
    go : (b : Bool) → p x ≡ true → list_all p (beside_part sessions xs part) ≡ true → list_all p (cond b (x ∷ beside_part sessions xs part) (beside_part sessions xs part)) ≡ true
    go true here rest = and_from _ _ here rest
    go false here rest = rest

-- the pids beside a part are those of its sessions
beside-pids : (sessions : List ListedSession) (pids : List Text) (part : ℕ) → pids ≡ map (λ (s : ListedSession). s.pid) sessions → beside_part sessions pids part ≡ pids_of_part sessions part
beside-pids sessions pids part is = ap (λ ps. beside_part sessions ps part) is ∙ own sessions
  where
    own : (ss : List ListedSession) → beside_part ss (map (λ (s : ListedSession). s.pid) ss) part ≡ pids_of_part ss part
    own [] = refl
    own (s ∷ ss) = go (is_of_part part s) (own ss)
      where
        go : (b : Bool) → beside_part ss (map (λ (t : ListedSession). t.pid) ss) part ≡ pids_of_part ss part
            → cond b (s.pid ∷ beside_part ss (map (λ (t : ListedSession). t.pid) ss) part) (beside_part ss (map (λ (t : ListedSession). t.pid) ss) part)
            ≡ map (λ (t : ListedSession). t.pid) (cond b (s ∷ filter (is_of_part part) ss) (filter (is_of_part part) ss))
        go true ih = ap (λ ps. s.pid ∷ ps) ih
        go false ih = ih

-- lines that stand beside the sessions merge to themselves
merged-beside : (sessions : List ListedSession) (lines : List ReportLine) → length lines ≡ length sessions → merged_lines (beside_part sessions lines) sessions ≡ lines
merged-beside [] [] same = refl
merged-beside [] (line ∷ lines) same = absurd (let e : suc (length lines) ≡ 0 = same in omega arith)
merged-beside (s ∷ sessions) [] same = absurd (let e : 0 ≡ suc (length sessions) = same in omega arith)
merged-beside (s ∷ sessions) (line ∷ lines) same =
    ap (λ b. take 1 (cond b (line ∷ beside_part sessions lines s.part) (beside_part sessions lines s.part)) ++ merged_lines (after_next s.part (beside_part (s ∷ sessions) (line ∷ lines))) sessions) (eq-eqb s.part s.part refl)
    ∙ ap (λ left. line ∷ merged_lines left sessions) (λ i k. left k i)
    ∙ ap (λ ls. line ∷ ls) (merged-beside sessions lines (omega (arith, same)))
  where
    left : (k : ℕ) → after_next s.part (beside_part (s ∷ sessions) (line ∷ lines)) k ≡ beside_part sessions lines k
    left k = elim (cases_eq k s.part) [
      | inl is ↦ rw (eq-eqb k s.part is, eq-eqb s.part k (sym is)) refl
      | inr other ↦ rw (ne_eqb k s.part other, ne_eqb s.part k (λ e. other (sym e))) refl
    ]

-- ---- the reports on the parts

-- the text is no refusal
no-refusal : (entries : List SessionVerdict) → is_refusal (report_text entries) ≡ false
no-refusal [] = refl
no-refusal (entry ∷ entries) = go entry.verdict
  where
    go : (verdict : Verdict) → is_refusal (report_text (record { pid = entry.pid; verdict = verdict } ∷ entries)) ≡ false
    go (Yes got tail turns) = refl
    go (No fault) = refl

-- how often reports tell of a part
abbrev tells : List (List Text) → ℕ → List ℕ → ℕ
tells parts part text = cond (is_some (lines_if part (told parts text))) 1 0

-- the sum over a list, from its front on
abbrev tally : {X : Type 0} → (X → ℕ) → List X → ℕ
tally f [] = 0
tally f (x ∷ xs) = f x + tally f xs

tally-is : {X : Type 0} (f : X → ℕ) (xs : List X) → sum_by f xs ≡ tally f xs
tally-is f [] = refl
tally-is f (x ∷ xs) = sum_by-cons f x xs ∙ ap (λ n. f x + n) (tally-is f xs)

-- none tells of it
lines_on-none : (parts : List (List Text)) (part : ℕ) (texts : List (List ℕ)) → tally (tells parts part) texts ≡ 0 → lines_on parts texts part ≡ None
lines_on-none parts part [] none = refl
lines_on-none parts part (text ∷ texts) none = go (lines_if part (told parts text)) none (lines_on-none parts part texts)
  where
    go : (o : Option (List ReportLine)) → cond {A = ℕ} (is_some o) 1 0 + tally (tells parts part) texts ≡ 0 → (tally (tells parts part) texts ≡ 0 → lines_on parts texts part ≡ None)
        → option_or o (lines_on parts texts part) ≡ None
    go None e ih = ih (omega arith)
    go (Some lines) e ih = absurd (omega arith)

-- a report tells its part and these lines of it
abbrev IsOn : List (List Text) → ℕ → (ℕ → List ReportLine) → List ℕ → Type 0
IsOn parts count of text = (k : ℕ) × (k < count) × (told parts text ≡ Ok (k, of k))

-- one tells of it
lines_on-some : (parts : List (List Text)) (count : ℕ) (of : ℕ → List ReportLine) (part : ℕ) (texts : List (List ℕ)) → All (IsOn parts count of) texts
    → 0 < tally (tells parts part) texts → lines_on parts texts part ≡ Some (of part)
lines_on-some parts count of part [] are some = absurd (omega arith)
lines_on-some parts count of part (text ∷ texts) are some =
    let (k, within, is) = All-head (IsOn parts count of) text texts are in
    go k (told parts text) is (cases_eq k part) some (lines_on-some parts count of part texts (All-tail (IsOn parts count of) text texts are))
  where
    go : (k : ℕ) (t : Result (ℕ × List ReportLine) ReportFault) → t ≡ Ok (k, of k) → (k ≡ part) ⊎ (k ≡ part → ⊥)
        → 0 < cond {A = ℕ} (is_some (lines_if part t)) 1 0 + tally (tells parts part) texts → (0 < tally (tells parts part) texts → lines_on parts texts part ≡ Some (of part))
        → option_or (lines_if part t) (lines_on parts texts part) ≡ Some (of part)
    go k t is (inl same) some ih =
        ap (λ (u : Result (ℕ × List ReportLine) ReportFault). option_or (lines_if part u) (lines_on parts texts part)) is
        ∙ ap (λ b. option_or (cond b (Some (of k)) None) (lines_on parts texts part)) (eq-eqb k part same) ∙ ap (λ n. Some (of n)) same
    go k t is (inr other) some ih =
        let none : lines_if part t ≡ None = ap (lines_if part) is ∙ ap (λ b. cond b (Some (of k)) None) (ne_eqb k part other) in
        let count_is : ◌≡◌ {A = ℕ} (cond (is_some (lines_if part t)) 1 0) 0 = ap (λ (o : Option (List ReportLine)). cond {A = ℕ} (is_some o) 1 0) none in
        ap (λ o. option_or o (lines_on parts texts part)) none ∙ ih (omega arith)

-- how often the reports on later parts tell of it
abbrev IsLater : List (List Text) → (ℕ → List ℕ) → ℕ → ℕ → ℕ → Type 0
IsLater parts report part first count =
    (part < suc first → tally (tells parts part) (map report (numbers_from (suc first) count)) ≡ 0)
    × (suc first ≤ part → part < suc first + count → tally (tells parts part) (map report (numbers_from (suc first) count)) ≡ 1)

-- reports on consecutive parts tell once of each
sum-numbers : (parts : List (List Text)) (report : ℕ → List ℕ) (of : ℕ → List ReportLine) (part first count : ℕ)
    → ((k : ℕ) → first ≤ k → k < first + count → told parts (report k) ≡ Ok (k, of k))
    → (part < first → tally (tells parts part) (map report (numbers_from first count)) ≡ 0)
    × (first ≤ part → part < first + count → tally (tells parts part) (map report (numbers_from first count)) ≡ 1)
sum-numbers parts report of part first zero are = ((λ low. refl), λ low high. absurd (omega arith))
sum-numbers parts report of part first (suc count) are =
    let later = sum-numbers parts report of part (suc first) count (λ k low high. are k (omega arith) (omega arith)) in
    let here = ap (λ (t : Result (ℕ × List ReportLine) ReportFault). cond {A = ℕ} (is_some (lines_if part t)) 1 0) (are first (omega arith) (omega arith)) in (
      λ low. go (cases_eq first part) here later low,
      λ low high. once (cases_eq first part) here later low high,
    )
  where
    one : (b : Bool) (n : ℕ) → b ≡ true → ◌≡◌ {A = ℕ} (cond (is_some (cond b (Some (of first)) None)) 1 0) 1
    one true n e = refl
    one false n e = cc

    zero_is : (b : Bool) → b ≡ false → ◌≡◌ {A = ℕ} (cond (is_some (cond b (Some (of first)) None)) 1 0) 0
    zero_is true e = cc
    zero_is false e = refl

    go : (first ≡ part) ⊎ (first ≡ part → ⊥) → tells parts part (report first) ≡ cond {A = ℕ} (is_some (cond (first == part) (Some (of first)) None)) 1 0 → IsLater parts report part first count → part < first
        → tells parts part (report first) + tally (tells parts part) (map report (numbers_from (suc first) count)) ≡ 0
    go (inl same) here later low = absurd (omega arith)
    go (inr other) here later low = omega (arith, here, zero_is (first == part) (ne_eqb first part other), later.0 (omega arith))

    once : (first ≡ part) ⊎ (first ≡ part → ⊥) → tells parts part (report first) ≡ cond {A = ℕ} (is_some (cond (first == part) (Some (of first)) None)) 1 0 → IsLater parts report part first count → first ≤ part → part < first + suc count
        → tells parts part (report first) + tally (tells parts part) (map report (numbers_from (suc first) count)) ≡ 1
    once (inl same) here later low high = omega (arith, here, one (first == part) 0 (eq-eqb first part same), later.0 (omega arith))
    once (inr other) here later low high = omega (arith, here, zero_is (first == part) (ne_eqb first part other), later.1 (omega arith) (omega arith))

-- consecutive numbers of which none gives anything
none-given : {X : Type 0} (f : ℕ → Option X) (first count : ℕ) → ((k : ℕ) → first ≤ k → k < first + count → f k ≡ None) → filter_map f (numbers_from first count) ≡ []
none-given f first zero none = refl
none-given f first (suc count) none = rw (none first (omega arith) (omega arith)) (none-given f (suc first) count (λ k low high. none k (omega arith) (omega arith)))

-- what is true of the consecutive numbers
pub all-numbers : (P : ℕ → Type 0) (first count : ℕ) → ((k : ℕ) → first ≤ k → k < first + count → P k) → All P (numbers_from first count)
all-numbers P first zero holds = λ k d within. absurd (omega arith)
all-numbers P first (suc count) holds = All-cons P first (numbers_from (suc first) count) (holds first (omega arith) (omega arith)) (all-numbers P (suc first) count (λ k low high. holds k (omega arith) (omega arith)))

module _ (parts : List (List Text)) (count : ℕ) (of : ℕ → List ReportLine) (report : ℕ → List ℕ) (reports : List (List ℕ))
    (told_is : (k : ℕ) → k < count → told parts (report k) ≡ Ok (k, of k)) (order : IsPermutation (map report (numbers_from 0 count)) reports) where
  -- each report is on a part
  are-on : All (IsOn parts count of) reports
  are-on =
      All-permutation (IsOn parts count of) (map report (numbers_from 0 count)) reports order
      (All-map (IsOn parts count of) report (numbers_from 0 count) (all-numbers (λ k. IsOn parts count of (report k)) 0 count (λ k low high. (k, omega arith, told_is k (omega arith)))))

  -- one on each
  once : (k : ℕ) → k < count → tally (tells parts k) reports ≡ 1
  once k within =
      sym (tally-is (tells parts k) reports)
      ∙ sum_by-IsPermutation (tells parts k) (map report (numbers_from 0 count)) reports order
      ∙ tally-is (tells parts k) (map report (numbers_from 0 count))
      ∙ (sum-numbers parts report of k 0 count (λ j low high. told_is j (omega arith))).1 (omega arith) (omega arith)

  -- these are its lines
  pub lines-given : (k : ℕ) → k < count → lines_on parts reports k ≡ Some (of k)
  lines-given k within = lines_on-some parts count of k reports are-on (omega (arith, once k within))

  -- no report is at fault
  no-fault : (i : ℕ) → i < length reports → fault_of parts reports i ≡ None
  no-fault i within = ap (option_and_then (λ text. option_map (Report i) (fault_after parts (take i reports) (told parts text)))) (slice_get_read reports (length reports) i (get_or reports i []) refl within (get_or_default reports i [] (get_or reports i []) within)) ∙ go
    where
      go : option_map (Report i) (fault_after parts (take i reports) (told parts (get_or reports i []))) ≡ None
      go =
          let (k, low, is) = All-get_or (IsOn parts count of) reports i [] within are-on in
          let most = sum_by_more_le (tells parts k) reports i [] within in
          let front = tally-is (tells parts k) (take i reports) in
          let all = tally-is (tells parts k) reports in
          let here : tells parts k (get_or reports i []) ≡ 1 = ap (λ (t : Result (ℕ × List ReportLine) ReportFault). cond {A = ℕ} (is_some (lines_if k t)) 1 0) is ∙ ap (λ b. cond {A = ℕ} (is_some (cond b (Some (of k)) None)) 1 0) (eq-eqb k k refl) in
          let none = lines_on-none parts k (take i reports) (omega (arith, once k low)) in
          ap (λ (t : Result (ℕ × List ReportLine) ReportFault). option_map (Report i) (fault_after parts (take i reports) t)) is
          ∙ ap (λ (o : Option (List ReportLine)). option_map (Report i) (cond (is_some o) (Some Doubled) None)) none

  -- nothing is wrong
  pub no-faults : length parts ≡ count → faults_in parts reports ≡ []
  no-faults same =
      let first = none-given (fault_of parts reports) 0 (length reports) (λ k low high. no-fault k (omega arith)) in
      let second = none-given (missing_at parts reports) 0 (length parts) (λ k low high. ap (λ (o : Option (List ReportLine)). cond (is_some o) None (Some (Missing k))) (lines-given k (omega arith))) in
      λ i. first i ++ second i

-- ---- the report on the whole

entries-formed : (sessions : List ListedSession) (entries : List SessionVerdict) → pids_of_entries entries ≡ map (λ (s : ListedSession). s.pid) sessions
    → list_all (λ (s : ListedSession). is_session_id s.pid) sessions ≡ true → report.are_formed entries ≡ true
entries-formed sessions entries same formed = of-pids entries ∙ ap (list_all is_session_id) same ∙ of-sessions sessions ∙ formed
  where
    of-pids : (es : List SessionVerdict) → report.are_formed es ≡ list_all is_session_id (pids_of_entries es)
    of-pids [] = refl
    of-pids (e ∷ es) = ap (λ b. is_session_id e.pid && b) (of-pids es)

    of-sessions : (ss : List ListedSession) → list_all is_session_id (map (λ (s : ListedSession). s.pid) ss) ≡ list_all (λ (s : ListedSession). is_session_id s.pid) ss
    of-sessions [] = refl
    of-sessions (s ∷ ss) = ap (λ b. is_session_id s.pid && b) (of-sessions ss)

-- the report on a part tells the part and its lines
told-back : (l : Listing) (entries : List SessionVerdict) (k : ℕ) → is_listing l ≡ true → pids_of_entries entries ≡ pids_listed l → list_all is_one_line entries ≡ true → k < l.parts
    → told (pids_by_part l) (report_on_part l entries k) ≡ Ok (k, beside_part l.sessions (map as_line entries) k)
unfolding told
told-back l entries k is same lines within =
    let (most, full) = and_parts (are_within l && are_formed l && are_new [] l.sessions) (is_full l) is in
    let (both, new) = and_parts (are_within l && are_formed l) (are_new [] l.sessions) most in
    let formed = (and_parts (are_within l) (are_formed l) both).1 in
    let own = beside_part l.sessions entries k in
    let reads = report-back own (beside-all (λ (e : SessionVerdict). is_session_id e.pid) l.sessions entries k (entries-formed l.sessions entries same formed)) (beside-all is_one_line l.sessions entries k lines) in
    let pids : pids_of (map as_line own) ≡ pids_of_part l.sessions k = pids-lines own ∙ sym (beside-map (λ (e : SessionVerdict). e.pid) l.sessions entries k) ∙ beside-pids l.sessions (pids_of_entries entries) k same in
    rw (no-refusal own, reads, pids, own-part l k new full within) (ap (λ ls. Ok (k, ls)) (sym (beside-map as_line l.sessions entries k)))

-- of the reports on the parts, in whatever order, the merge gives the report on the whole
pub merges_reports : MergesReports
merges_reports l entries reports is same lines order =
    ap (λ fs. answer_of fs (merged_of (merged_lines (own_lines (pids_by_part l) reports) l.sessions))) none
    ∙ ap (λ ls. Whole (merged_of ls)) all
    ∙ (λ i. Whole (record { text = text-lines entries i; are_all_yes = all-lines entries i }))
  where
    size : length (pids_by_part l) ≡ l.parts
    size = length-numbers (pids_of_part l.sessions) 0 l.parts

    within : are_within l ≡ true
    within = (and_parts _ _ (and_parts _ _ (and_parts _ _ is).0).0).0

    none : faults_in (pids_by_part l) reports ≡ []
    none = no-faults (pids_by_part l) l.parts (beside_part l.sessions (map as_line entries)) (report_on_part l entries) reports (λ k below. told-back l entries k is same lines below) order size

    given : (k : ℕ) → k < l.parts → own_lines (pids_by_part l) reports k ≡ beside_part l.sessions (map as_line entries) k
    given k below =
        ap (λ (o : Option (List ReportLine)). unwrap_or o [])
        (lines-given (pids_by_part l) l.parts (beside_part l.sessions (map as_line entries)) (report_on_part l entries) reports (λ j low. told-back l entries j is same lines low) order k below)

    count : length (map as_line entries) ≡ length l.sessions
    count =
        length-map entries as_line ∙ sym (length-map entries (λ (e : SessionVerdict). e.pid)) ∙ ap length same ∙ length-map l.sessions (λ (s : ListedSession). s.pid)

    all : merged_lines (own_lines (pids_by_part l) reports) l.sessions ≡ map as_line entries
    all =
        merged-same (own_lines (pids_by_part l) reports) (beside_part l.sessions (map as_line entries)) l.parts l.sessions given within
        ∙ merged-beside l.sessions (map as_line entries) count
