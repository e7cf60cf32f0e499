-- Of each part the lines of its report, as reports come; and the lines that are next.
use Rattle.std.proofs.Common.{◌≡◌, ℕ, zero, suc, ◌+◌, ◌<◌, ◌≤◌, ◌==◌, not, nat_lt, is_some, List, [], ◌∷◌, ◌++◌, length, map, take, drop, get_or, set, slice_get, slice_index, unwrap_or, Bool, true, false, cond, Option, Some, None, option_map, option_to_list, Result, Ok, Err, refl, sym, ap, subst, ◌∙◌, arith, inl, inr, append_assoc, replicate, ◌⊎◌, add-one, drop-cons}
use Rattle.std.specs.List.{filter_map, cons_option, position_from, list_all}
use Rattle.std.specs.Option.{option_and_then, option_or}
use Rattle.std.specs.Cmp.Lexicographic.{pointwise}
use Rattle.std.specs.Str.{bytes_eq}
use Rattle.std.proofs.lemmas.Bool.{cases_lt, cases_eq, and_parts, eq-eqb, ne_eqb, ltb-true, lt-ltb, le-ltb}
use Rattle.std.proofs.lemmas.Option.{none-some, same_Some, slice_get_past, slice_get_read, slice_get_within}
use Rattle.std.proofs.lemmas.List.{length-map, length-set, drop_all, drop-drop, take_more, get_or-set_same, get_or-set_other}
use Rattle.std.proofs.lemmas.List.Elements.{filter_map-append}
use Rattle.aud_base.specs.Lists.{numbers_from}
use Rattle.aud_base.specs.Steps.{need}
use Rattle.aud_base.proofs.Lists.{drop_at as element_at_drop, element_at}
use Rattle.aud_base.proofs.Numbers.{numbers_from-more}
use Rattle.aud_base.proofs.StepLemmas.{same-ok, part-of, guard-ok}
use Rattle.aud_node.specs.Stream.{Text}
use Rattle.aud_parts.specs.declared.listing.Listing.{Listing}
use Rattle.aud_parts.specs.declared.listing.ListedSession.{ListedSession}
use Rattle.aud_parts.specs.declared.merging.fault.ReportFault.{ReportFault}
use Rattle.aud_parts.specs.declared.merging.fault.ReportFault.TheVariants.{Refused, NotWhole, OtherSplit, Doubled}
use Rattle.aud_parts.specs.declared.merging.fault.MergeFault.{MergeFault}
use Rattle.aud_parts.specs.declared.merging.fault.MergeFault.TheVariants.{Report, Missing}
use Rattle.aud_parts.specs.Listing.{are_within, pids_by_part, pids_of_part}
use Rattle.aud_parts.specs.ReportLines.{ReportLine, report_in, pids_of}
use Rattle.aud_parts.specs.Merged.{part_of, is_refusal, told, lines_if, lines_on, fault_after, fault_of, missing_at, faults_in, after_next, merged_lines, own_lines, merged_of, answer_of, merged}
use Rattle.aud_parts.specs.Private.Slots.{lines_in, slots_with, fault_with, slots_of, report_faults, missing_if, missing_in, all_in, left_in, next_after}
use Rattle.aud_parts.proofs.PartLemmas.{map-numbers, set-number, get-number, length-numbers, replicate-numbers}

-- what a report tells
abbrev Tells : Type 0
Tells = Result (ℕ × List ReportLine) ReportFault

-- ---- the part of a report

-- the place of an element that passes
pub position-sound : {X : Type 0} (p : X → Bool) (first : ℕ) (xs : List X) (k : ℕ) → position_from p first xs ≡ Some k
    → (x : X) × (j : ℕ) × (k ≡ first + j) × (slice_get xs j ≡ Some x) × (p x ≡ true)
position-sound p first [] k e = cc
position-sound p first (x ∷ xs) k e = go (p x) refl e (position-sound p (first + 1) xs k)
  where
    go : (b : Bool) → p x ≡ b → cond b (Some first) (position_from p (first + 1) xs) ≡ Some k
        → (position_from p (first + 1) xs ≡ Some k → (y : _) × (j : ℕ) × (k ≡ first + 1 + j) × (slice_get xs j ≡ Some y) × (p y ≡ true))
        → (y : _) × (j : ℕ) × (k ≡ first + j) × (slice_get (x ∷ xs) j ≡ Some y) × (p y ≡ true)
    go true held at ih = (x, 0, (let same : first ≡ k = same_Some first k at in omega arith), refl, held)
    go false held at ih = let (y, j, is, there, passes) = ih at in (y, suc j, omega arith, there, passes)

need-some : {A : Type 0} (fault : ReportFault) (o : Option A) (x : A) → need fault o ≡ Ok x → o ≡ Some x
need-some fault None x e = cc
need-some fault (Some y) x e = ap Some (same-ok y x e)

-- a report that is on a part has the pids of that part's sessions
pub told-sound : (parts : List (List Text)) (text : List ℕ) (of : ℕ × List ReportLine) → told parts text ≡ Ok of
    → (own : List Text) × (slice_get parts of.0 ≡ Some own) × (pointwise bytes_eq own (pids_of of.1) ≡ true)
unfolding told
told-sound parts text of e =
    let (unrefused, rest) = guard-ok Refused (not (is_refusal text)) _ of e in
    let (lines, reads, rest) = part-of (need NotWhole (report_in text)) _ of rest in
    let (part, found, last) = part-of (need OtherSplit (part_of parts (pids_of lines))) _ of rest in
    let (own, j, is, there, same) = position-sound (λ own. pointwise bytes_eq own (pids_of lines)) 0 parts part (need-some OtherSplit (part_of parts (pids_of lines)) part found) in
    let place : j ≡ part = omega arith in
    subst (λ (o : ℕ × List ReportLine). (mine : List Text) × (slice_get parts o.0 ≡ Some mine) × (pointwise bytes_eq mine (pids_of o.1) ≡ true)) (same-ok (part, lines) of last)
    (own, ap (slice_get parts) (sym place) ∙ there, same)

-- the part is one of them
pub told-within : (parts : List (List Text)) (text : List ℕ) (of : ℕ × List ReportLine) → told parts text ≡ Ok of → of.0 < length parts
told-within parts text of e = let (own, there, same) = told-sound parts text of e in slice_get_within parts of.0 own there

-- ---- one report more

option_or-none : {A : Type 0} (o : Option A) → option_or o None ≡ o
option_or-none None = refl
option_or-none (Some x) = refl

option_or-assoc : {A : Type 0} (a b c : Option A) → option_or a (option_or b c) ≡ option_or (option_or a b) c
option_or-assoc None b c = refl
option_or-assoc (Some x) b c = refl

-- one report after others
pub lines_on-more : (parts : List (List Text)) (texts : List (List ℕ)) (text : List ℕ) (part : ℕ) → lines_on parts (texts ++ text ∷ []) part ≡ option_or (lines_on parts texts part) (lines_if part (told parts text))
lines_on-more parts [] text part = option_or-none (lines_if part (told parts text))
lines_on-more parts (first ∷ texts) text part =
    ap (option_or (lines_if part (told parts first))) (lines_on-more parts texts text part)
    ∙ option_or-assoc (lines_if part (told parts first)) (lines_on parts texts part) (lines_if part (told parts text))

-- the slot of a part
pub slot-of : (parts : List (List Text)) (texts : List (List ℕ)) (part : ℕ) → part < length parts → lines_in (slots_of parts texts) part ≡ lines_on parts texts part
slot-of parts texts part within = ap (option_and_then (λ (slot : Option (List ReportLine)). slot)) (get-number (lines_on parts texts) (length parts) part within)

-- what a report tells goes to its slot
slots-told : (parts : List (List Text)) (before : List (List ℕ)) (text : List ℕ) (tells : Tells) → told parts text ≡ tells
    → slots_with (slots_of parts before) tells ≡ slots_of parts (before ++ text ∷ [])
slots-told parts before text (Err fault) is =
    map-numbers (lines_on parts before) (lines_on parts (before ++ text ∷ [])) 0 (length parts)
    (λ k low high. sym (lines_on-more parts before text k ∙ ap (λ (t : Tells). option_or (lines_on parts before k) (lines_if k t)) is ∙ option_or-none (lines_on parts before k)))
slots-told parts before text (Ok of) is = go (lines_on parts before of.0) refl
  where
    within : of.0 < length parts
    within = told-within parts text of is

    more : (k : ℕ) → lines_on parts (before ++ text ∷ []) k ≡ option_or (lines_on parts before k) (cond (of.0 == k) (Some of.1) None)
    more k = lines_on-more parts before text k ∙ ap (λ (t : Tells). option_or (lines_on parts before k) (lines_if k t)) is

    other : (k : ℕ) → (of.0 ≡ k → ⊥) → lines_on parts before k ≡ lines_on parts (before ++ text ∷ []) k
    other k differs =
        sym (option_or-none (lines_on parts before k))
        ∙ ap (λ b. option_or (lines_on parts before k) (cond b (Some of.1) None)) (sym (ne_eqb of.0 k differs))
        ∙ sym (more k)

    go : (here : Option (List ReportLine)) → lines_on parts before of.0 ≡ here
        → cond (is_some (lines_in (slots_of parts before) of.0)) (slots_of parts before) (set (slots_of parts before) of.0 (Some of.1)) ≡ slots_of parts (before ++ text ∷ [])
    go (Some lines) e =
        ap (λ (o : Option (List ReportLine)). cond (is_some o) (slots_of parts before) (set (slots_of parts before) of.0 (Some of.1))) (slot-of parts before of.0 within ∙ e)
        ∙ map-numbers (lines_on parts before) (lines_on parts (before ++ text ∷ [])) 0 (length parts) (λ k low high. kept k (cases_eq of.0 k))
      where
        kept : (k : ℕ) → (of.0 ≡ k) ⊎ (of.0 ≡ k → ⊥) → lines_on parts before k ≡ lines_on parts (before ++ text ∷ []) k
        kept k (inl same) =
            let had : lines_on parts before k ≡ Some lines = ap (lines_on parts before) (sym same) ∙ e in
            had ∙ ap (λ (o : Option (List ReportLine)). option_or o (cond (of.0 == k) (Some of.1) None)) (sym had) ∙ sym (more k)
        kept k (inr differs) = other k differs
    go None e =
        ap (λ (o : Option (List ReportLine)). cond (is_some o) (slots_of parts before) (set (slots_of parts before) of.0 (Some of.1))) (slot-of parts before of.0 within ∙ e)
        ∙ ap (set (slots_of parts before) of.0) (sym (more of.0 ∙ (λ i. option_or (e i) (cond (eq-eqb of.0 of.0 refl i) (Some of.1) None))))
        ∙ set-number (lines_on parts before) (lines_on parts (before ++ text ∷ [])) (length parts) of.0 within other

-- the slots after one report more
pub slots-more : (parts : List (List Text)) (reports : List (List ℕ)) (i : ℕ) (text : List ℕ) (old new : List (Option (List ReportLine))) (tells : Tells)
    → i < length reports → text ≡ get_or reports i text → tells ≡ told parts text
    → old ≡ slots_of parts (take i reports) → new ≡ slots_with old tells → new ≡ slots_of parts (take (i + 1) reports)
slots-more parts reports i text old new tells within is told_is before after =
    after ∙ ap (λ slots. slots_with slots tells) before ∙ slots-told parts (take i reports) text tells (sym told_is)
    ∙ ap (slots_of parts) (ap (λ t. take i reports ++ t ∷ []) is ∙ sym (take_more reports i text within))

-- what is wrong with a report goes by the slots
fault-told : (parts : List (List Text)) (before : List (List ℕ)) (text : List ℕ) (tells : Tells) → told parts text ≡ tells
    → fault_with (slots_of parts before) tells ≡ fault_after parts before tells
fault-told parts before text (Err fault) is = refl
fault-told parts before text (Ok of) is = ap (λ (o : Option (List ReportLine)). cond (is_some o) (Some Doubled) None) (slot-of parts before of.0 (told-within parts text of is))

cons-none : {X : Type 0} (o : Option X) → cons_option o [] ≡ option_to_list o
cons-none None = refl
cons-none (Some x) = refl

-- what the next number gives
filter_map-more : {X : Type 0} (f : ℕ → Option X) (n : ℕ) (x : Option X) → f n ≡ x → filter_map f (numbers_from 0 n) ++ option_to_list x ≡ filter_map f (numbers_from 0 (n + 1))
filter_map-more f n x is =
    sym (ap (filter_map f) (numbers_from-more n) ∙ filter_map-append f (numbers_from 0 n) (n ∷ []) ∙ ap (λ xs. filter_map f (numbers_from 0 n) ++ xs) (cons-none (f n) ∙ ap option_to_list is))

-- the faults after one report more
pub faults-more : (parts : List (List Text)) (reports : List (List ℕ)) (i : ℕ) (text : List ℕ) (slots : List (Option (List ReportLine))) (old new : List MergeFault) (tells : Tells)
    → i < length reports → text ≡ get_or reports i text → tells ≡ told parts text → slots ≡ slots_of parts (take i reports)
    → old ≡ filter_map (fault_of parts reports) (numbers_from 0 i) → new ≡ old ++ option_to_list (option_map (Report i) (fault_with slots tells))
    → new ≡ filter_map (fault_of parts reports) (numbers_from 0 (i + 1))
faults-more parts reports i text slots old new tells within is told_is slots_are before after =
    after ∙ (λ k. before k ++ option_to_list (option_map (Report i) (here k))) ∙ filter_map-more (fault_of parts reports) i _ there
  where
    here : fault_with slots tells ≡ fault_after parts (take i reports) tells
    here = ap (λ s. fault_with s tells) slots_are ∙ fault-told parts (take i reports) text tells (sym told_is)

    there : fault_of parts reports i ≡ option_map (Report i) (fault_after parts (take i reports) tells)
    there =
        ap (option_and_then (λ t. option_map (Report i) (fault_after parts (take i reports) (told parts t)))) (slice_get_read reports (length reports) i text refl within is)
        ∙ ap (λ (t : Tells). option_map (Report i) (fault_after parts (take i reports) t)) (sym told_is)

-- before any report
pub slots-none : (parts : List (List Text)) → replicate (length parts) None ≡ slots_of parts []
slots-none parts = replicate-numbers None 0 (length parts)

pub slots-start : {X : Type 0} (items : X → List Text) (parts : List X) (slots : List (Option (List ReportLine))) → slots ≡ replicate (length parts) None → slots ≡ slots_of (map items parts) []
slots-start items parts slots are = are ∙ ap (λ n. replicate n None) (sym (length-map parts items)) ∙ slots-none (map items parts)

-- ---- parts without a report

-- one part more
pub missing-more : (slots : List (Option (List ReportLine))) (i : ℕ) (old new : List MergeFault) (all : List MergeFault) (slot : Option (List ReportLine))
    → slice_get slots i ≡ Some slot → new ≡ old ++ option_to_list (cond (is_some slot) None (Some (Missing i)))
    → old ≡ all ++ filter_map (missing_if slots) (numbers_from 0 i) → new ≡ all ++ filter_map (missing_if slots) (numbers_from 0 (i + 1))
missing-more slots i old new all slot there after before =
    after ∙ ap (λ faults. faults ++ option_to_list (cond (is_some slot) None (Some (Missing i)))) before
    ∙ append_assoc all (filter_map (missing_if slots) (numbers_from 0 i)) (option_to_list (cond (is_some slot) None (Some (Missing i))))
    ∙ ap (λ faults. all ++ faults) (filter_map-more (missing_if slots) i (cond (is_some slot) None (Some (Missing i))) (ap (λ (o : Option (Option (List ReportLine))). cond (is_some (option_and_then (λ (s : Option (List ReportLine)). s) o)) None (Some (Missing i))) there))

filter_map-numbers : {X : Type 0} (f g : ℕ → Option X) (first count : ℕ) → ((k : ℕ) → first ≤ k → k < first + count → f k ≡ g k) → filter_map f (numbers_from first count) ≡ filter_map g (numbers_from first count)
filter_map-numbers f g first zero same = refl
filter_map-numbers f g first (suc count) same =
    let here = same first (omega arith) (omega arith) in
    let later = filter_map-numbers f g (suc first) count (λ k low high. same k (omega arith) (omega arith)) in
    λ i. cons_option (here i) (later i)

-- by the slots after all reports
pub missing-all : (parts : List (List Text)) (reports : List (List ℕ)) (slots : List (Option (List ReportLine))) → slots ≡ slots_of parts reports
    → missing_in slots ≡ filter_map (missing_at parts reports) (numbers_from 0 (length parts))
missing-all parts reports slots are =
    ap missing_in are
    ∙ ap (λ n. filter_map (missing_if (slots_of parts reports)) (numbers_from 0 n)) (length-numbers (lines_on parts reports) 0 (length parts))
    ∙ filter_map-numbers (missing_if (slots_of parts reports)) (missing_at parts reports) 0 (length parts)
    (λ k low high. ap (λ (o : Option (List ReportLine)). cond (is_some o) None (Some (Missing k))) (slot-of parts reports k (omega arith)))

-- ---- the lines that are next

-- the next line of the part was taken
pub left-next : (slots : List (Option (List ReportLine))) (next : List ℕ) (part k : ℕ) → length next ≡ length slots
    → left_in slots (next_after slots next part) k ≡ after_next part (left_in slots next) k
left-next slots next part k same = go (cases_lt (slice_index next part) (length (all_in slots part))) (cases_eq k part)
  where
    within : slice_index next part < length (all_in slots part) → part < length next
    within some = elim (cases_lt part (length slots)) [
      | inl h ↦ omega arith
      | inr past ↦
          let none : all_in slots part ≡ [] = ap (λ (o : Option (Option (List ReportLine))). unwrap_or (option_and_then (λ (s : Option (List ReportLine)). s) o) []) (slice_get_past slots part past) in
          let e : length (all_in slots part) ≡ 0 = ap length none in absurd (omega arith)
    ]

    go : (slice_index next part < length (all_in slots part)) ⊎ (length (all_in slots part) ≤ slice_index next part) → (k ≡ part) ⊎ (k ≡ part → ⊥)
        → left_in slots (next_after slots next part) k ≡ after_next part (left_in slots next) k
    go (inl some) (inl is) =
        let taken : next_after slots next part ≡ set next part (slice_index next part + 1) = rw (lt-ltb _ _ some) refl in
        let count : slice_index (set next part (slice_index next part + 1)) part ≡ slice_index next part + 1 = get_or-set_same next part (slice_index next part + 1) 0 (within some) in
        ap (λ ns. left_in slots ns k) taken ∙ ap (left_in slots (set next part (slice_index next part + 1))) is
        ∙ ap (λ n. drop n (all_in slots part)) count ∙ sym (drop-drop 1 (slice_index next part) (all_in slots part))
        ∙ ap (λ j. drop 1 (left_in slots next j)) (sym is)
        ∙ ap (λ b. cond b (drop 1 (left_in slots next k)) (left_in slots next k)) (sym (eq-eqb k part is))
    go (inl some) (inr differs) =
        let taken : next_after slots next part ≡ set next part (slice_index next part + 1) = rw (lt-ltb _ _ some) refl in
        ap (λ ns. left_in slots ns k) taken
        ∙ ap (λ n. drop n (all_in slots k)) (get_or-set_other next part k (slice_index next part + 1) 0 differs)
        ∙ ap (λ b. cond b (drop 1 (left_in slots next k)) (left_in slots next k)) (sym (ne_eqb k part differs))
    go (inr none) (inl is) =
        let stays : next_after slots next part ≡ next = rw (le-ltb _ _ none) refl in
        let empty : left_in slots next part ≡ [] = drop_all (slice_index next part) (all_in slots part) none in
        let empty_here : left_in slots next k ≡ [] = ap (left_in slots next) is ∙ empty in
        ap (λ ns. left_in slots ns k) stays ∙ empty_here ∙ ap (drop 1) (sym empty_here)
        ∙ ap (λ b. cond b (drop 1 (left_in slots next k)) (left_in slots next k)) (sym (eq-eqb k part is))
    go (inr none) (inr differs) =
        let stays : next_after slots next part ≡ next = rw (le-ltb _ _ none) refl in
        ap (λ ns. left_in slots ns k) stays ∙ ap (λ b. cond b (drop 1 (left_in slots next k)) (left_in slots next k)) (sym (ne_eqb k part differs))

-- a line that is there is the next one
next-some : (all : List ReportLine) (n : ℕ) (line : ReportLine) → Some line ≡ slice_get all n → (line ∷ [] ≡ take 1 (drop n all)) × (nat_lt n (length all) ≡ true)
next-some all n line there = (ap (take 1) (sym (element_at_drop all n line (sym there))), lt-ltb n (length all) (slice_get_within all n line (sym there)))

-- there is none
next-none : (all : List ReportLine) (n : ℕ) → None ≡ slice_get all n → ([] ≡ take 1 (drop n all)) × (nat_lt n (length all) ≡ false)
next-none all n none = elim (cases_lt n (length all)) [
  | inl within ↦ let (line, there) = element_at all n within in absurd (none-some line (none ∙ there))
  | inr past ↦ (ap (take 1) (sym (drop_all n all past)), le-ltb n (length all) past)
]

-- the line that is next is taken
pub taken-some : (slots : List (Option (List ReportLine))) (next : List ℕ) (part n : ℕ) (line : ReportLine) → n ≡ slice_index next part → Some line ≡ slice_get (all_in slots part) n
    → (line ∷ [] ≡ take 1 (left_in slots next part)) × (set next part (n + 1) ≡ next_after slots next part)
taken-some slots next part n line is there =
    let found = next-some (all_in slots part) (slice_index next part) line (there ∙ ap (slice_get (all_in slots part)) is) in
    (found.0, ap (λ m. set next part (m + 1)) is ∙ ap (λ b. cond b (set next part (slice_index next part + 1)) next) (sym found.1))

-- no line is next
pub taken-none : (slots : List (Option (List ReportLine))) (next : List ℕ) (part n : ℕ) → n ≡ slice_index next part → None ≡ slice_get (all_in slots part) n
    → ([] ≡ take 1 (left_in slots next part)) × (next ≡ next_after slots next part)
taken-none slots next part n is none =
    let found = next-none (all_in slots part) (slice_index next part) (none ∙ ap (slice_get (all_in slots part)) is) in
    (found.0, ap (λ b. cond b (set next part (slice_index next part + 1)) next) (sym found.1))

-- the counts stay as many
pub length-next : (slots : List (Option (List ReportLine))) (next : List ℕ) (part : ℕ) → length (next_after slots next part) ≡ length next
length-next slots next part = elim (nat_lt (slice_index next part) (length (all_in slots part))) as (λ b. length (cond b (set next part (slice_index next part + 1)) next) ≡ length next) [
  | true ↦ length-set next part (slice_index next part + 1)
  | false ↦ refl
]

-- the line of one session more
pub merged-more : (slots : List (Option (List ReportLine))) (sessions : List ListedSession) (i : ℕ) (s : ListedSession) (old new : List ReportLine) (next after : List ℕ) (all : List ReportLine)
    → i < length sessions → s ≡ get_or sessions i s → length next ≡ length slots
    → new ≡ old ++ take 1 (left_in slots next s.part) → after ≡ next_after slots next s.part
    → old ++ merged_lines (left_in slots next) (drop i sessions) ≡ all → new ++ merged_lines (left_in slots after) (drop (i + 1) sessions) ≡ all
merged-more slots sessions i s old new next after all within is same put counted before =
    (λ k. put k ++ merged_lines (left_in slots (counted k)) (drop (i + 1) sessions))
    ∙ ap (λ left. (old ++ take 1 (left_in slots next s.part)) ++ merged_lines left (drop (i + 1) sessions)) (λ j k. left-next slots next s.part k same j)
    ∙ append_assoc old (take 1 (left_in slots next s.part)) (merged_lines (after_next s.part (left_in slots next)) (drop (i + 1) sessions))
    ∙ ap (λ (t : ListedSession). old ++ (take 1 (left_in slots next t.part) ++ merged_lines (after_next t.part (left_in slots next)) (drop (i + 1) sessions))) is
    ∙ ap (λ ss. old ++ merged_lines (left_in slots next) ss) (ap (λ n. get_or sessions i s ∷ drop n sessions) (add-one i) ∙ sym (drop-cons sessions i s within))
    ∙ before

-- lines that are left alike merge alike
pub merged-same : (left other : ℕ → List ReportLine) (parts : ℕ) (sessions : List ListedSession) → ((k : ℕ) → k < parts → left k ≡ other k)
    → list_all (λ (s : ListedSession). nat_lt s.part parts) sessions ≡ true → merged_lines left sessions ≡ merged_lines other sessions
merged-same left other parts [] same within = refl
merged-same left other parts (s ∷ sessions) same within =
    let here = and_parts (nat_lt s.part parts) (list_all (λ (t : ListedSession). nat_lt t.part parts) sessions) within in
    let first = same s.part (ltb-true s.part parts here.0) in
    let rest = merged-same (after_next s.part left) (after_next s.part other) parts sessions (λ k below. ap (λ ls. cond (k == s.part) (drop 1 ls) ls) (same k below)) here.1 in
    λ i. take 1 (first i) ++ rest i

-- the lines of the reports, by the slots after all of them
pub merged-all : (parts : List (List Text)) (reports : List (List ℕ)) (slots : List (Option (List ReportLine))) (sessions : List ListedSession) (count : ℕ) → slots ≡ slots_of parts reports → length parts ≡ count
    → list_all (λ (s : ListedSession). nat_lt s.part count) sessions ≡ true → merged_lines (all_in slots) sessions ≡ merged_lines (own_lines parts reports) sessions
merged-all parts reports slots sessions count are same within =
    merged-same (all_in slots) (own_lines parts reports) count sessions
    (λ k below. ap (λ s. all_in s k) are ∙ ap (λ (o : Option (List ReportLine)). unwrap_or o []) (slot-of parts reports k (omega arith)))
    within

-- ---- the answer

-- the slots are as many as the parts
pub slots-length : (l : Listing) (parts : List (List Text)) (reports : List (List ℕ)) (slots : List (Option (List ReportLine))) → parts ≡ pids_by_part l → slots ≡ slots_of parts reports → length slots ≡ l.parts
slots-length l parts reports slots parts_are are =
    ap length are ∙ length-numbers (lines_on parts reports) 0 (length parts) ∙ ap length parts_are ∙ length-numbers (pids_of_part l.sessions) 0 l.parts

-- all that is wrong
pub faults-all : (l : Listing) (reports : List (List ℕ)) (parts : List (List Text)) (slots : List (Option (List ReportLine))) (found all : List MergeFault)
    → parts ≡ pids_by_part l → slots ≡ slots_of parts reports → found ≡ report_faults parts reports → all ≡ found ++ missing_in slots → all ≡ faults_in (pids_by_part l) reports
faults-all l reports parts slots found all parts_are are found_are all_are =
    all_are ∙ (λ i. found_are i ++ missing-all parts reports slots are i) ∙ ap (λ ps. faults_in ps reports) parts_are

-- the answer by the slots
pub answered-so : (l : Listing) (reports : List (List ℕ)) (parts : List (List Text)) (slots : List (Option (List ReportLine))) (found all : List MergeFault) (sessions : List ListedSession)
    → parts ≡ pids_by_part l → slots ≡ slots_of parts reports → found ≡ report_faults parts reports → all ≡ found ++ missing_in slots → sessions ≡ l.sessions → are_within l ≡ true
    → answer_of all (merged_of (merged_lines (all_in slots) sessions)) ≡ merged l reports
answered-so l reports parts slots found all sessions parts_are are found_are all_are same within =
    let size : length parts ≡ l.parts = ap length parts_are ∙ length-numbers (pids_of_part l.sessions) 0 l.parts in
    let lines = ap (merged_lines (all_in slots)) same ∙ merged-all parts reports slots l.sessions l.parts are size within ∙ ap (λ ps. merged_lines (own_lines ps reports) l.sessions) parts_are in
    (λ i. answer_of (faults-all l reports parts slots found all parts_are are found_are all_are i) (merged_of (lines i)))
