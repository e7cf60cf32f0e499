-- The reports on the parts of a listing are merged to the report on the whole.
use Rattle.std.proofs.Common.{◌≡◌, ◌&&◌, ◌||◌, ◌+◌, ◌<◌, ℕ, zero, suc, arith, nat_lt, Some, option_map, slice_get, not, Bool, true, false, cond, List, [], ◌∷◌, ◌++◌, map, filter, get_or, refl, sym, ap, subst, ◌∙◌, bytes_eq, IsPermutation}
use Rattle.std.specs.List.{All, list_any}
use Rattle.std.specs.Cmp.Lexicographic.{nat_list_eq_equiv}
use Rattle.std.proofs.lemmas.Bool.{and_parts, or_parts, true≢false, true_from_ne_false, ltb-true, eq-eqb}
use Rattle.std.proofs.lemmas.List.Elements.{All-head, All-tail, All-nil, All-cons, All-weaker, All-filter}
use Rattle.std.proofs.lemmas.List.Folds.{list_any-append, list_any_none, list_any_at, list_all_at}
use Rattle.std.proofs.lemmas.Option.{slice_get-map}
use Rattle.aud_tap.specs.declared.taps.Tap.{Tap}
use Rattle.aud_base.proofs.Lists.{any-map}
use Rattle.aud_base.proofs.SameText.{itself_text}
use Rattle.aud_base.specs.Lists.{numbers_from}
use Rattle.aud_base.specs.OneForEach.{OneForEach}
use Rattle.aud_node.specs.Cluster.{Cluster, cluster_of}
use Rattle.aud_node.specs.Stream.{Text}
use Rattle.aud_maker.specs.Sessions.{sessions_of}
use Rattle.aud_verdict.specs.declared.verdict.SessionVerdict.{SessionVerdict}
use Rattle.aud_verdict.specs.Report.{report_text}
use Rattle.aud_upgrade.specs.Kept.{UpgradesKeepVerdicts}
use Rattle.aud_parts.specs.declared.listing.Listing.{Listing}
use Rattle.aud_parts.specs.declared.listing.ListedSession.{ListedSession}
use Rattle.aud_parts.specs.Listing.{is_of_part, pids_of_part, pids_by_part, are_within, are_formed, are_new, is_full}
use Rattle.aud_parts.specs.Merged.{merged}
use Rattle.aud_parts.specs.MergeLaws.{beside_part, report_on_part, reports_on_parts, pids_of_entries, pids_listed, MergesReports}
use Rattle.aud_parts.specs.Part.{is_among}
use Rattle.aud_laws.specs.Parts.{IsAnswer, IsReportOn, MayBePart, IsListingOf, whole_of, AreFormed}
use Rattle.aud_laws.proofs.LeftOut.Logs.{all-there}
use Rattle.aud_laws.proofs.InParts.Each.{each-there, for-one, collected}
use Rattle.aud_laws.proofs.InParts.OneLine.{entries-formed, answers-plain}
use Rattle.aud_laws.proofs.InParts.Reports.{part-report, one-said, session-once}

-- ---- the sessions of a listing, each in one part

-- a session of the listing that is new has none of the pids before it
none-before : (before : List Text) (ls : List ListedSession) → are_new before ls ≡ true → All (λ (s : ListedSession). list_any (bytes_eq s.pid) before ≡ false) ls
none-before before [] new = All-nil (λ (s : ListedSession). list_any (bytes_eq s.pid) before ≡ false)
none-before before (s ∷ ls) new =
    let (first, rest) = and_parts (not (list_any (bytes_eq s.pid) before)) (are_new (before ++ s.pid ∷ []) ls) new in
    All-cons (λ (t : ListedSession). list_any (bytes_eq t.pid) before ≡ false) s ls (turned (list_any (bytes_eq s.pid) before) first)
    (All-weaker (λ (t : ListedSession). list_any (bytes_eq t.pid) (before ++ s.pid ∷ []) ≡ false) (λ (t : ListedSession). list_any (bytes_eq t.pid) before ≡ false)
    (λ t none. (or_parts (list_any (bytes_eq t.pid) before) (list_any (bytes_eq t.pid) (s.pid ∷ [])) (sym (list_any-append (bytes_eq t.pid) before (s.pid ∷ [])) ∙ none)).0)
    ls (none-before (before ++ s.pid ∷ []) ls rest))
  where
    turned : (b : Bool) → not b ≡ true → b ≡ false
    turned true is = sym is
    turned false is = refl

-- the sessions after one have other pids
apart : (before : List Text) (s : ListedSession) (ls : List ListedSession) → are_new (before ++ s.pid ∷ []) ls ≡ true → All (λ (t : ListedSession). bytes_eq s.pid t.pid ≡ false) ls
apart before s ls new =
    All-weaker (λ (t : ListedSession). list_any (bytes_eq t.pid) (before ++ s.pid ∷ []) ≡ false) (λ (t : ListedSession). bytes_eq s.pid t.pid ≡ false)
    (λ t none.
    let last = (or_parts (list_any (bytes_eq t.pid) before) (list_any (bytes_eq t.pid) (s.pid ∷ [])) (sym (list_any-append (bytes_eq t.pid) before (s.pid ∷ [])) ∙ none)).1 in
    nat_list_eq_equiv.symm s.pid t.pid ∙ (or_parts (bytes_eq t.pid s.pid) false last).0)
    ls (none-before (before ++ s.pid ∷ []) ls new)

module _ (part : ℕ) where
  -- a session is among those of the part
  among-more : (s : ListedSession) (ls : List ListedSession) (pid : Text) → is_among (pids_of_part (s ∷ ls) part) pid ≡ ((is_of_part part s && bytes_eq s.pid pid) || is_among (pids_of_part ls part) pid)
  among-more s ls pid = go (is_of_part part s)
    where
      pids : List ListedSession → List Text
      pids xs = map (λ (t : ListedSession). t.pid) xs

      go : (b : Bool) → is_among (pids (cond b (s ∷ filter (is_of_part part) ls) (filter (is_of_part part) ls))) pid ≡ ((b && bytes_eq s.pid pid) || is_among (pids_of_part ls part) pid)
      go true = refl
      go false = refl

  -- a session of another pid than all of these is none of them
  none-among : (ls : List ListedSession) (pid : Text) → All (λ (t : ListedSession). bytes_eq pid t.pid ≡ false) ls → is_among (pids_of_part ls part) pid ≡ false
  none-among ls pid others =
      any-map (λ own. bytes_eq own pid) (λ (t : ListedSession). t.pid) (filter (is_of_part part) ls)
      ∙ list_any_none (λ (t : ListedSession). bytes_eq t.pid pid) (filter (is_of_part part) ls)
      (All-filter (is_of_part part) (λ (t : ListedSession). bytes_eq t.pid pid ≡ false) ls
      (All-weaker (λ (t : ListedSession). bytes_eq pid t.pid ≡ false) (λ (t : ListedSession). bytes_eq t.pid pid ≡ false) (λ t other. nat_list_eq_equiv.symm t.pid pid ∙ other) ls others))

  -- each is among those of its part alone
  own-part : (before : List Text) (ls : List ListedSession) → are_new before ls ≡ true → All (λ (s : ListedSession). is_among (pids_of_part ls part) s.pid ≡ is_of_part part s) ls
  own-part before [] new = All-nil (λ (s : ListedSession). is_among (pids_of_part [] part) s.pid ≡ is_of_part part s)
  own-part before (s ∷ ls) new =
      let rest = (and_parts (not (list_any (bytes_eq s.pid) before)) (are_new (before ++ s.pid ∷ []) ls) new).1 in
      let others = apart before s ls rest in
      All-cons (λ (t : ListedSession). is_among (pids_of_part (s ∷ ls) part) t.pid ≡ is_of_part part t) s ls (first others)
      (later (All-both others (own-part (before ++ s.pid ∷ []) ls rest)))
    where
      first : All (λ (t : ListedSession). bytes_eq s.pid t.pid ≡ false) ls → is_among (pids_of_part (s ∷ ls) part) s.pid ≡ is_of_part part s
      first others =
          among-more s ls s.pid
          ∙ ap (λ b. (is_of_part part s && bytes_eq s.pid s.pid) || b) (none-among ls s.pid others)
          ∙ ap (λ b. (is_of_part part s && b) || false) (itself_text s.pid)
          ∙ alone (is_of_part part s)
        where
          alone : (b : Bool) → ((b && true) || false) ≡ b
          alone true = refl
          alone false = refl

      All-both : All (λ (t : ListedSession). bytes_eq s.pid t.pid ≡ false) ls → All (λ (t : ListedSession). is_among (pids_of_part ls part) t.pid ≡ is_of_part part t) ls
          → All (λ (t : ListedSession). (bytes_eq s.pid t.pid ≡ false) × (is_among (pids_of_part ls part) t.pid ≡ is_of_part part t)) ls
      All-both one two k d lt = (one k d lt, two k d lt)

      later : All (λ (t : ListedSession). (bytes_eq s.pid t.pid ≡ false) × (is_among (pids_of_part ls part) t.pid ≡ is_of_part part t)) ls
          → All (λ (t : ListedSession). is_among (pids_of_part (s ∷ ls) part) t.pid ≡ is_of_part part t) ls
      later both k d lt =
          let t = get_or ls k d in
          let (differs, is) = both k d lt in
          among-more s ls t.pid
          ∙ ap (λ b. (is_of_part part s && b) || is_among (pids_of_part ls part) t.pid) differs
          ∙ none (is_of_part part s) (is_among (pids_of_part ls part) t.pid)
          ∙ is
        where
          none : (a b : Bool) → ((a && false) || b) ≡ b
          none true b = refl
          none false b = refl

  -- what stands beside the part's sessions
  beside-is : (own : Text → Bool) (ls : List ListedSession) (es : List SessionVerdict) → pids_of_entries es ≡ map (λ (s : ListedSession). s.pid) ls
      → All (λ (s : ListedSession). own s.pid ≡ is_of_part part s) ls → filter (λ (e : SessionVerdict). own e.pid) es ≡ beside_part ls es part
  beside-is own [] [] same all = refl
  beside-is own [] (e ∷ es) same all = absurd (let none : e.pid ∷ pids_of_entries es ≡ [] = same in cc)
  beside-is own (s ∷ ls) [] same all = absurd (let none : [] ≡ s.pid ∷ map (λ (t : ListedSession). t.pid) ls = same in cc)
  beside-is own (s ∷ ls) (e ∷ es) same all =
      let cons : e.pid ∷ pids_of_entries es ≡ s.pid ∷ map (λ (t : ListedSession). t.pid) ls = same in
      let head : e.pid ≡ s.pid = cc in
      let tail : pids_of_entries es ≡ map (λ (t : ListedSession). t.pid) ls = cc in
      let rest = filter (λ (x : SessionVerdict). own x.pid) es in
      ap (λ b. cond b (e ∷ rest) rest) (ap own head ∙ All-head (λ (t : ListedSession). own t.pid ≡ is_of_part part t) s ls all)
      ∙ ap (λ xs. cond (is_of_part part s) (e ∷ xs) xs) (beside-is own ls es tail (All-tail (λ (t : ListedSession). own t.pid ≡ is_of_part part t) s ls all))

-- ---- the reports

-- the names of answers
answered-pids : (c : Cluster) (whole : Bool) (pids : List Text) (entries : List SessionVerdict) → OneForEach (IsAnswer c whole) pids entries → pids_of_entries entries ≡ pids
answered-pids c whole [] [] are = refl
answered-pids c whole [] (entry ∷ entries) are = absurd are
answered-pids c whole (pid ∷ pids) [] are = absurd are
answered-pids c whole (pid ∷ pids) (entry ∷ entries) are =
    ap (λ p. p ∷ pids_of_entries entries) are.0.0 ∙ ap (λ ps. pid ∷ ps) (answered-pids c whole pids entries are.1)

module _ (kept : UpgradesKeepVerdicts) (taps : List Tap) (whole : Bool) (listing : Listing) (entries : List SessionVerdict)
    (listed : pids_listed listing ≡ sessions_of (cluster_of taps)) (right : OneForEach (IsAnswer (cluster_of taps) whole) (sessions_of (cluster_of taps)) entries) (new : are_new [] listing.sessions ≡ true) where
  named : pids_of_entries entries ≡ pids_listed listing
  named = answered-pids (cluster_of taps) whole (sessions_of (cluster_of taps)) entries right ∙ sym listed

  -- the report on a part
  one-report : (part : ℕ) (text : List ℕ) → MayBePart taps (pids_of_part listing.sessions part) → IsReportOn taps whole (pids_of_part listing.sessions part) text → text ≡ report_on_part listing entries part
  one-report part text may (its, verdicts, said) =
      let pids = pids_of_part listing.sessions part in
      said
      ∙ ap report_text (part-report kept taps whole pids entries its may.0 may.1 right verdicts ∙ beside-is part (is_among pids) listing.sessions entries named (own-part part [] listing.sessions new))

  -- the reports on these parts
  these-reports : (numbers : List ℕ) (texts : List (List ℕ)) → All (MayBePart taps) (map (pids_of_part listing.sessions) numbers)
      → OneForEach (IsReportOn taps whole) (map (pids_of_part listing.sessions) numbers) texts → texts ≡ map (report_on_part listing entries) numbers
  these-reports [] [] may are = refl
  these-reports [] (text ∷ texts) may are = absurd are
  these-reports (part ∷ numbers) [] may are = absurd are
  these-reports (part ∷ numbers) (text ∷ texts) may are =
      let pids = pids_of_part listing.sessions part in
      let others = map (pids_of_part listing.sessions) numbers in
      ap (λ t. t ∷ texts) (one-report part text (All-head (MayBePart taps) pids others may) are.0)
      ∙ ap (λ ts. report_on_part listing entries part ∷ ts) (these-reports numbers texts (All-tail (MayBePart taps) pids others may) are.1)

-- ---- the answers on all sessions

-- the number at a place
number-there : (first count i : ℕ) → i < count → slice_get (numbers_from first count) i ≡ Some (first + i)
number-there first zero i less = absurd (omega (arith, less))
number-there first (suc count) zero less = let same : first ≡ first + 0 = omega arith in ap Some same
number-there first (suc count) (suc i) less =
    let same : suc first + i ≡ first + suc i = omega arith in
    number-there (suc first) count i (omega (arith, less)) ∙ ap Some same

module _ (kept : UpgradesKeepVerdicts) (taps : List Tap) (whole : Bool) (listing : Listing) (of : IsListingOf taps listing) (own : List (List ℕ)) (are : OneForEach (IsReportOn taps whole) (pids_by_part listing) own) where
  abbrev Answered : ListedSession → Type 0
  Answered s = (entry : SessionVerdict) × IsAnswer (cluster_of taps) whole s.pid entry

  pids-new : are_new [] listing.sessions ≡ true
  pids-new = (and_parts (are_within listing && are_formed listing) (are_new [] listing.sessions) (and_parts (are_within listing && are_formed listing && are_new [] listing.sessions) (is_full listing) of.is_one).0).1

  all-within : are_within listing ≡ true
  all-within = (and_parts (are_within listing) (are_formed listing) (and_parts (are_within listing && are_formed listing) (are_new [] listing.sessions) (and_parts (are_within listing && are_formed listing && are_new [] listing.sessions) (is_full listing) of.is_one).0).0).0

  -- a session of a part has its answer in the report on the part
  answered : (s : ListedSession) → nat_lt s.part listing.parts ≡ true → is_among (pids_of_part listing.sessions s.part) s.pid ≡ true
      → list_any (λ p. bytes_eq p s.pid) (sessions_of (cluster_of taps)) ≡ true → Answered s
  answered s within among there =
      let pids = pids_of_part listing.sessions s.part in
      let less : s.part < listing.parts = ltb-true s.part listing.parts within in
      let at : slice_get (pids_by_part listing) s.part ≡ Some pids =
      slice_get-map (pids_of_part listing.sessions) (numbers_from 0 listing.parts) s.part
      ∙ ap (option_map (pids_of_part listing.sessions)) (number-there 0 listing.parts s.part less ∙ ap Some (let same : 0 + s.part ≡ s.part = omega arith in same)) in
      let (text, (its, verdicts, said)) = each-there (IsReportOn taps whole) (pids_by_part listing) own s.part pids are at in
      let may_be = all-there (MayBePart taps) (pids_by_part listing) s.part pids of.parts at in
      let one = one-said kept taps whole s.pid (session-once kept taps whole s.pid there) pids its may_be.0 may_be.1 verdicts in
      for-one (IsAnswer (cluster_of taps) whole) s.pid (filter (λ (entry : SessionVerdict). bytes_eq entry.pid s.pid) its)
      (subst (λ b. OneForEach (IsAnswer (cluster_of taps) whole) (cond b (s.pid ∷ []) []) (filter (λ (entry : SessionVerdict). bytes_eq entry.pid s.pid) its)) among one)

  all-answered : All Answered listing.sessions
  all-answered k d lt =
      let s = get_or listing.sessions k d in
      let within : nat_lt s.part listing.parts ≡ true =
      true_from_ne_false (nat_lt s.part listing.parts) (λ none. true≢false (sym all-within ∙ list_all_at (λ (t : ListedSession). nat_lt t.part listing.parts) listing.sessions k d lt none)) in
      let there : list_any (λ p. bytes_eq p s.pid) (pids_listed listing) ≡ true =
      any-map (λ p. bytes_eq p s.pid) (λ (t : ListedSession). t.pid) listing.sessions ∙ list_any_at (λ (t : ListedSession). bytes_eq t.pid s.pid) listing.sessions k d lt (itself_text s.pid) in
      answered s within (own-part s.part [] listing.sessions pids-new k d lt ∙ eq-eqb s.part s.part refl)
      (subst (λ ps. list_any (λ p. bytes_eq p s.pid) ps ≡ true) of.sessions there)

  pub right-answers : (entries : List SessionVerdict) × OneForEach (IsAnswer (cluster_of taps) whole) (sessions_of (cluster_of taps)) entries
  right-answers =
      let (entries, right) = collected (IsAnswer (cluster_of taps) whole) (λ (s : ListedSession). s.pid) listing.sessions all-answered in
      (entries, subst (λ ps. OneForEach (IsAnswer (cluster_of taps) whole) ps entries) of.sessions right)

  -- ---- the report on the whole

  pub merged-whole : MergesReports → AreFormed taps → (reports : List (List ℕ)) → IsPermutation own reports → (entries : List SessionVerdict)
      → OneForEach (IsAnswer (cluster_of taps) whole) (sessions_of (cluster_of taps)) entries
      → merged listing reports ≡ whole_of entries
  merged-whole merges formed reports order entries right =
      let same : own ≡ reports_on_parts listing entries = these-reports kept taps whole listing entries of.sessions right pids-new (numbers_from 0 listing.parts) own of.parts are in
      merges listing entries reports of.is_one (named kept taps whole listing entries of.sessions right pids-new)
      (answers-plain (cluster_of taps) whole (entries-formed taps formed.records) (sessions_of (cluster_of taps)) entries right) (subst (λ texts. IsPermutation texts reports) same order)
