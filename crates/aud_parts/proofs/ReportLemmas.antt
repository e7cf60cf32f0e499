-- The lines of a report, as they are read again.
use Rattle.std.proofs.Common.{◌≡◌, ℕ, ◌+◌, ◌-◌, ◌&&◌, not, List, [], ◌∷◌, ◌++◌, length, map, Bool, true, false, cond, Option, Some, None, option_map, refl, sym, ap, ◌∙◌, arith, append_assoc, append-nil, flat_map, codes, decimal, count_by, bytes_eq}
use Rattle.std.specs.List.{list_all}
use Rattle.std.specs.Option.{option_and_then}
use Rattle.std.proofs.lemmas.Bool.{and_parts, and_from, not-true, not_from_false}
use Rattle.std.proofs.lemmas.List.{length-map}
use Rattle.std.proofs.lemmas.List.Sums.{sum_by-cons}
use Rattle.aud_base.proofs.SameText.{itself_text}
use Rattle.aud_tap.specs.WellFormed.{is_session_id}
use Rattle.aud_cert.specs.Fault.{fault_text}
use Rattle.aud_reader.specs.Lines.{has_newline}
use Rattle.aud_verdict.specs.declared.verdict.Verdict.{Verdict}
use Rattle.aud_verdict.specs.declared.verdict.Verdict.TheVariants.{Yes, No}
use Rattle.aud_verdict.specs.declared.verdict.SessionVerdict.{SessionVerdict}
use Rattle.aud_verdict.specs.YesOf.{is_yes}
use Rattle.aud_verdict.specs.Report.{line_of, totals_line, report_text}
use Rattle.aud_parts.specs.Cut.{cut_at, whole_lines}
use Rattle.aud_parts.specs.ReportLines.{ReportLine, says_yes, with_words, report_line, report_lines, totals_of, totals, with_totals, last_line, front_lines, report_of_lines, report_in, ended_line, report_of, pids_of}
use Rattle.aud_parts.specs.MergeLaws.{is_line, is_one_line, pids_of_entries}
use Rattle.aud_parts.proofs.CutLemmas.{has_byte, cut-after, lines-flat, lines-ended, with_lines}
use Rattle.aud_parts.proofs.NumberLemmas.{decimal-without}
use Rattle.aud_parts.proofs.ListingLemmas.{has_byte-append, pid-without}

-- ---- a loop over the lines

-- lines before these
abbrev pub after_front : List ReportLine → Option (List ReportLine) → Option (List ReportLine)
after_front front lines = option_map (λ (ls : List ReportLine). front ++ ls) lines

-- ---- the last line

last_line-end : (text : List ℕ) (texts : List (List ℕ)) (last : List ℕ) → last_line text (texts ++ last ∷ []) ≡ last
last_line-end text [] last = refl
last_line-end text (next ∷ texts) last = last_line-end next texts last

front_lines-end : (text : List ℕ) (texts : List (List ℕ)) (last : List ℕ) → front_lines text (texts ++ last ∷ []) ≡ text ∷ texts
front_lines-end text [] last = refl
front_lines-end text (next ∷ texts) last = ap (λ ts. text ∷ ts) (front_lines-end next texts last)

-- lines and a last one
pub report_of_lines-end : (front : List (List ℕ)) (last : List ℕ) → report_of_lines (front ++ last ∷ []) ≡ option_and_then (with_totals last) (report_lines front)
report_of_lines-end [] last = refl
report_of_lines-end (text ∷ texts) last = rw (last_line-end text texts last, front_lines-end text texts last) refl

-- the same of lines that were split
pub report_of_lines-split : (texts front : List (List ℕ)) (last : List ℕ) → texts ≡ front ++ last ∷ [] → report_of_lines texts ≡ option_and_then (with_totals last) (report_lines front)
report_of_lines-split texts front last is = ap report_of_lines is ∙ report_of_lines-end front last

-- the same of the lines that were read
pub report-read : (texts front : List (List ℕ)) (last : List ℕ) (lines : Option (List ReportLine)) → texts ≡ front ++ last ∷ [] → lines ≡ report_lines front
    → option_and_then (with_totals last) lines ≡ report_of_lines texts
report-read texts front last lines is reads = ap (option_and_then (with_totals last)) reads ∙ sym (report_of_lines-split texts front last is)

-- what a test of the last line said
pub totals-said : (said is : Bool) (x y last : List ℕ) (lines : List ReportLine) → said ≡ bytes_eq x y → said ≡ is → x ≡ last → y ≡ totals lines
    → ◌≡◌ {A = Option (List ReportLine)} (cond is (Some lines) None) (with_totals last lines)
totals-said said is x y last lines tested was x_is y_is =
    ap (λ b. cond {A = Option (List ReportLine)} b (Some lines) None) (sym was ∙ tested ∙ (λ i. bytes_eq (x_is i) (y_is i)))

-- ---- a report that was written

-- the line of a session, without its newline
abbrev pub line_text : List ℕ → Verdict → List ℕ
line_text pid (Yes got tail turns) = codes "yes " ++ pid ++ codes " got=" ++ decimal got ++ codes " tail=" ++ decimal tail ++ codes " turns=" ++ decimal turns
line_text pid (No fault) = codes "no " ++ pid ++ codes " " ++ fault_text fault

-- the line that a verdict is told in
abbrev pub as_line : SessionVerdict → ReportLine
as_line entry = record { pid = entry.pid; is_yes = is_yes entry; text = line_text entry.pid entry.verdict }

line-ended : (pid : List ℕ) (verdict : Verdict) → line_of pid verdict ≡ line_text pid verdict ++ 10 ∷ []
line-ended pid (Yes got tail turns) = refl
line-ended pid (No fault) = refl

-- no line has a newline
line-without : (pid : List ℕ) (verdict : Verdict) → is_session_id pid ≡ true → is_line verdict ≡ true → has_byte 10 (line_text pid verdict) ≡ false
line-without pid (Yes got tail turns) formed line =
    let named = codes "yes " ++ pid in
    let got_to = named ++ codes " got=" ++ decimal got in
    let tail_to = got_to ++ codes " tail=" ++ decimal tail in
    let first = has_byte-append 10 (codes "yes ") pid refl (pid-without 10 pid (omega arith) formed) in
    let second = has_byte-append 10 (named ++ codes " got=") (decimal got) (has_byte-append 10 named (codes " got=") first refl) (decimal-without 10 got (omega arith)) in
    let third = has_byte-append 10 (got_to ++ codes " tail=") (decimal tail) (has_byte-append 10 got_to (codes " tail=") second refl) (decimal-without 10 tail (omega arith)) in
    has_byte-append 10 (tail_to ++ codes " turns=") (decimal turns) (has_byte-append 10 tail_to (codes " turns=") third refl) (decimal-without 10 turns (omega arith))
line-without pid (No fault) formed line =
    has_byte-append 10 (codes "no " ++ pid ++ codes " ") (fault_text fault)
    (has_byte-append 10 (codes "no " ++ pid) (codes " ") (has_byte-append 10 (codes "no ") pid refl (pid-without 10 pid (omega arith) formed)) refl)
    (not-true (has_newline (fault_text fault)) line)

-- a line with a first word and a pid
words-read : (text word pid more : List ℕ) → text ≡ word ++ 32 ∷ (pid ++ 32 ∷ more) → has_byte 32 word ≡ false → is_session_id pid ≡ true
    → report_line text ≡ with_words text word (pid, more)
words-read text word pid more is none formed =
    ap (option_and_then (λ (cut : List ℕ × List ℕ). option_and_then (with_words text cut.0) (cut_at 32 cut.1))) (ap (cut_at 32) is ∙ cut-after 32 word (pid ++ 32 ∷ more) none refl)
    ∙ ap (option_and_then (with_words text word)) (cut-after 32 pid more (pid-without 32 pid (omega arith) formed) refl)

after-pid : (a b c d e f g : List ℕ) → a ++ b ++ c ++ d ++ e ++ f ++ g ≡ a ++ (b ++ c ++ d ++ e ++ f ++ g)
after-pid a b c d e f g = simp append_assoc

-- a line that was written reads as that line
line-back : (pid : List ℕ) (verdict : Verdict) → is_session_id pid ≡ true → report_line (line_text pid verdict) ≡ Some (as_line (record { pid = pid; verdict = verdict }))
line-back pid (Yes got tail turns) formed =
    words-read (line_text pid (Yes got tail turns)) (codes "yes") pid (codes "got=" ++ decimal got ++ codes " tail=" ++ decimal tail ++ codes " turns=" ++ decimal turns)
    (ap (λ text. codes "yes " ++ text) (after-pid pid (codes " got=") (decimal got) (codes " tail=") (decimal tail) (codes " turns=") (decimal turns))) refl formed
    ∙ rw formed refl
line-back pid (No fault) formed =
    words-read (line_text pid (No fault)) (codes "no") pid (fault_text fault) (ap (λ text. codes "no " ++ text) (append_assoc pid (codes " ") (fault_text fault))) refl formed
    ∙ rw formed refl

-- the pids of verdicts are formed
abbrev pub are_formed : List SessionVerdict → Bool
are_formed entries = list_all (λ (entry : SessionVerdict). is_session_id entry.pid) entries

lines-without : (entries : List SessionVerdict) → are_formed entries ≡ true → list_all is_one_line entries ≡ true
    → list_all (λ (entry : SessionVerdict). not (has_byte 10 (line_text entry.pid entry.verdict))) entries ≡ true
lines-without [] formed lines = refl
lines-without (entry ∷ entries) formed lines =
    let form = and_parts (is_session_id entry.pid) (are_formed entries) formed in
    let line = and_parts (is_one_line entry) (list_all is_one_line entries) lines in
    and_from _ _ (not_from_false _ (line-without entry.pid entry.verdict form.0 line.0)) (lines-without entries form.1 line.1)

lines-back : (entries : List SessionVerdict) → are_formed entries ≡ true
    → report_lines (map (λ (entry : SessionVerdict). line_text entry.pid entry.verdict) entries) ≡ Some (map as_line entries)
lines-back [] formed = refl
lines-back (entry ∷ entries) formed =
    let form = and_parts (is_session_id entry.pid) (are_formed entries) formed in
    rw (line-back entry.pid entry.verdict form.0, lines-back entries form.1) refl

-- the text of the lines
flat-ended : (entries : List SessionVerdict) → flat_map (λ (entry : SessionVerdict). line_of entry.pid entry.verdict) entries
    ≡ flat_map (λ (entry : SessionVerdict). line_text entry.pid entry.verdict ++ 10 ∷ []) entries
flat-ended [] = refl
flat-ended (entry ∷ entries) = λ i. line-ended entry.pid entry.verdict i ++ flat-ended entries i

flat-lines : (entries : List SessionVerdict) → flat_map ended_line (map as_line entries) ≡ flat_map (λ (entry : SessionVerdict). line_of entry.pid entry.verdict) entries
flat-lines [] = refl
flat-lines (entry ∷ entries) = λ i. sym (line-ended entry.pid entry.verdict) i ++ flat-lines entries i

count-lines : (entries : List SessionVerdict) → count_by says_yes (map as_line entries) ≡ count_by is_yes entries
count-lines [] = refl
count-lines (entry ∷ entries) =
    sum_by-cons (λ (line : ReportLine). cond (says_yes line) 1 0) (as_line entry) (map as_line entries)
    ∙ ap (λ n. cond (is_yes entry) 1 0 + n) (count-lines entries)
    ∙ sym (sum_by-cons (λ (e : SessionVerdict). cond (is_yes e) 1 0) entry entries)

-- the counts of the lines are those of the verdicts
totals-lines : (entries : List SessionVerdict) → totals (map as_line entries) ≡ totals_of (length entries) (count_by is_yes entries)
totals-lines entries = λ i. totals_of (length-map entries as_line i) (count-lines entries i)

-- whether all lines are yes
pub all-lines : (entries : List SessionVerdict) → list_all says_yes (map as_line entries) ≡ list_all is_yes entries
all-lines [] = refl
all-lines (entry ∷ entries) = ap (λ b. is_yes entry && b) (all-lines entries)

-- the pids of the lines
pub pids-lines : (entries : List SessionVerdict) → pids_of (map as_line entries) ≡ pids_of_entries entries
pids-lines [] = refl
pids-lines (entry ∷ entries) = ap (λ pids. entry.pid ∷ pids) (pids-lines entries)

-- the report of the lines is that of the verdicts
pub text-lines : (entries : List SessionVerdict) → report_of (map as_line entries) ≡ report_text entries
text-lines entries =
    (λ i. flat-lines entries i ++ totals-lines entries i ++ codes "\n")
    ∙ append_assoc (flat_map (λ (entry : SessionVerdict). line_of entry.pid entry.verdict) entries) (totals_of (length entries) (count_by is_yes entries)) (codes "\n")

-- a report that was written reads as its lines
pub report-back : (entries : List SessionVerdict) → are_formed entries ≡ true → list_all is_one_line entries ≡ true → report_in (report_text entries) ≡ Some (map as_line entries)
report-back entries formed lines =
    ap (option_and_then report_of_lines) whole
    ∙ report_of_lines-end (map (λ (entry : SessionVerdict). line_text entry.pid entry.verdict) entries) (totals_of (length entries) (count_by is_yes entries))
    ∙ ap (option_and_then (with_totals (totals_of (length entries) (count_by is_yes entries)))) (lines-back entries formed)
    ∙ ap (λ b. cond b (Some (map as_line entries)) None)
    (ap (bytes_eq (totals_of (length entries) (count_by is_yes entries))) (totals-lines entries) ∙ itself_text (totals_of (length entries) (count_by is_yes entries)))
  where
    last-without : has_byte 10 (totals_of (length entries) (count_by is_yes entries)) ≡ false
    last-without =
        has_byte-append 10 (codes "sessions=" ++ decimal (length entries) ++ codes " yes=" ++ decimal (count_by is_yes entries) ++ codes " no=") (decimal (length entries - count_by is_yes entries))
        (has_byte-append 10 (codes "sessions=" ++ decimal (length entries) ++ codes " yes=" ++ decimal (count_by is_yes entries)) (codes " no=")
        (has_byte-append 10 (codes "sessions=" ++ decimal (length entries) ++ codes " yes=") (decimal (count_by is_yes entries))
        (has_byte-append 10 (codes "sessions=" ++ decimal (length entries)) (codes " yes=")
        (has_byte-append 10 (codes "sessions=") (decimal (length entries)) refl (decimal-without 10 (length entries) (omega arith))) refl)
        (decimal-without 10 (count_by is_yes entries) (omega arith))) refl)
        (decimal-without 10 (length entries - count_by is_yes entries) (omega arith))

    last-line : whole_lines (totals_line entries) ≡ Some (totals_of (length entries) (count_by is_yes entries) ∷ [])
    last-line = ap whole_lines (sym (append-nil (totals_line entries))) ∙ lines-ended (totals_of (length entries) (count_by is_yes entries)) [] last-without

    whole : whole_lines (report_text entries) ≡ Some (map (λ (entry : SessionVerdict). line_text entry.pid entry.verdict) entries ++ totals_of (length entries) (count_by is_yes entries) ∷ [])
    whole =
        ap (λ flat. whole_lines (flat ++ totals_line entries)) (flat-ended entries)
        ∙ lines-flat (λ (entry : SessionVerdict). line_text entry.pid entry.verdict) entries (totals_line entries) (lines-without entries formed lines)
        ∙ ap (with_lines (map (λ (entry : SessionVerdict). line_text entry.pid entry.verdict) entries)) last-line
