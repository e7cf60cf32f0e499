-- A tap's records are those of its own lines.
use Rattle.std.proofs.Common.{◌≡◌, ◌≢◌, count_by, ℕ, List, [], ◌∷◌, ◌++◌, true, false, cond, ◌⊎◌, inl, inr, Option, Some, None, option_to_list, Ok, refl, sym, ap, ◌∙◌, append_assoc, append-nil}
use Rattle.std.specs.List.{cons_option, AllByRecursion, IsDistinct}
use Rattle.std.specs.Option.{option_map_or}
use Rattle.std.proofs.lemmas.List.Elements.{All-nil, All-cons}
use Rattle.std.proofs.lemmas.List.Sums.{sum_by-cons}
use Rattle.std.proofs.lemmas.Map.Made.{IsDistinct-from_AllPairs}
use Rattle.aud_reader.specs.Record.{line_record, opened_line}
use Rattle.std.proofs.lemmas.List.Folds.{find-append}
use Rattle.std.proofs.lemmas.Slice.Eq.{bytes_eq-Decides}
use Rattle.aud_base.proofs.Options.{or_none}
use Rattle.aud_base.proofs.SameText.{same_text, itself_text}
use Rattle.aud_reader.specs.declared.line.Line.{Line}
use Rattle.aud_tap.specs.declared.records.TapKind.{TapKind}
use Rattle.aud_tap.specs.declared.records.TapKind.TheVariants as kind
use Rattle.aud_tap.specs.declared.records.Version.{Version}
use Rattle.aud_tap.specs.declared.records.Rec.{Rec}
use Rattle.aud_tap.specs.declared.records.Rec.TheVariants as rec
use Rattle.aud_tap.specs.declared.taps.Records.{Records}
use Rattle.aud_tap.specs.declared.taps.Tap.{Tap}
use Rattle.aud_tap.specs.Forms.{is_text}
use Rattle.aud_reader.specs.Bundle.{tap_named, kind_of_tap, with_records, no_records, taps_from, taps_of}
use Rattle.aud_reader.specs.OwnLines.{record_for, records_for, recs_in, recs_of, recs_by_name, HaveTheirOwnLines, IsOfOneTap, EachLineIsOfOneTap}
use Rattle.aud_reader.specs.TapLaws.{AreDifferent}
use Rattle.aud_reader.specs.Sound.{names_of}
use Rattle.aud_reader.proofs.LineSteps.{Begins, Adds, first_of_lines}

-- what a line adds to the records of the tap of this name
abbrev AddsFor : List ℕ → List Tap → List ℕ → List Tap → Type 0
AddsFor name ts line more = recs_by_name name more ≡ recs_by_name name ts ++ option_to_list (record_for name (record { number = 0; bytes = line }))

-- two names are one, or the test says that they differ
by_name : {P : Type 0} (name n : List ℕ) → (name ≡ n → P) → (is_text name n ≡ false → P) → P
by_name {P} name n same other =
    elim (is_text name n) as (λ b. is_text name n ≡ b → P) [
      | true ↦ λ is. same (same_text name n is)
      | false ↦ λ is. other is
    ] refl

-- ---- a header

-- the records of a new tap are its header alone
kind-new : (of : TapKind) (version : Version) (name : List ℕ) → recs_of (record { name = name; version = version; records = no_records of }) ≡ rec.Header of version ∷ []
kind-new kind.Stream version name = refl
kind-new kind.Node version name = refl
kind-new kind.Client version name = refl

-- the line's record, where the line is read
record-read : (name line n : List ℕ) (r : Rec) → line_record line ≡ Ok (n, r) → (number : ℕ) → record_for name (record { number = number; bytes = line }) ≡ cond (is_text name n) (Some r) None
record-read name line n r reads number = rw reads refl

-- a header adds a record to the tap that it names, and to no other
begins-adds : (name : List ℕ) (ts more : List Tap) (line : List ℕ) → Begins ts line more → AddsFor name ts line more
begins-adds name ts more line b =
    let t : Tap = record { name = b.name; version = b.version; records = no_records b.of } in
    rw (b.is, find-append (λ (u : Tap). is_text name u.name) ts (t ∷ []), record-read name line b.name (rec.Header b.of b.version) b.reads 0)
    (by_name name b.name
    (λ same. let new : tap_named name ts ≡ None = rw same b.new in rw (new, same, itself_text b.name, kind-new b.of b.version b.name) refl)
    (λ other. rw (other, or_none (tap_named name ts), append-nil) refl))

-- ---- a later line

-- the tap whose records are replaced is found by its name, with the new records
named-same : (name : List ℕ) (records : Records) (ts : List Tap) (t : Tap) → tap_named name ts ≡ Some t → tap_named name (with_records name records ts) ≡ Some (record t { records = records })
named-same name records [] t e = cc
named-same name records (u ∷ us) t e =
    elim (is_text name u.name) as (λ b. is_text name u.name ≡ b → cond b (Some u) (tap_named name us) ≡ Some t
    → tap_named name (cond b (record u { records = records } ∷ us) (u ∷ with_records name records us)) ≡ Some (record t { records = records })) [
      | true ↦ λ is h. let same : u ≡ t = cc in rw (is, same) refl
      | false ↦ λ is h. rw is (named-same name records us t h)
    ] refl e

-- a tap of another name is found as before
pub named-other : (name n : List ℕ) (records : Records) (ts : List Tap) → is_text name n ≡ false → tap_named name (with_records n records ts) ≡ tap_named name ts
named-other name n records [] other = refl
named-other name n records (u ∷ us) other =
    elim (is_text n u.name) as (λ b. is_text n u.name ≡ b → tap_named name (cond b (record u { records = records } ∷ us) (u ∷ with_records n records us)) ≡ tap_named name (u ∷ us)) [
      | true ↦ λ is. let same : n ≡ u.name = same_text n u.name is in rw (← same, other) refl
      | false ↦ λ is. ap (λ o. cond (is_text name u.name) (Some u) o) (named-other name n records us other)
    ] refl

-- a later line adds its record to its own tap, and to no other
adds-adds : (name : List ℕ) (ts more : List Tap) (line : List ℕ) → Adds ts line more → AddsFor name ts line more
adds-adds name ts more line a =
    rw (a.is, record-read name line a.name a.grown.rec a.reads 0)
    (by_name name a.name
    (λ same.
    rw (same, itself_text a.name, named-same a.name a.records ts a.found a.is_found, a.is_found)
    (ap (λ k. rec.Header k (a.found).version ∷ recs_in a.records) a.grown.same ∙ ap (λ rs. rec.Header (kind_of_tap (a.found).records) (a.found).version ∷ rs) a.grown.recs))
    (λ other. rw (other, named-other name a.name a.records ts other, append-nil) refl))

-- ---- the lines

-- a record at the end of those before is the first of those after
add_first : (o : Option Rec) (before after : List Rec) → (before ++ option_to_list o) ++ after ≡ before ++ cons_option o after
add_first None before after = rw append-nil refl
add_first (Some r) before after = append_assoc before (r ∷ []) after

-- whatever a line is, a tap gets from it the records that the line has for the tap's name
line-adds : (name : List ℕ) (ts next : List Tap) (line : Line) → ((line.bytes ≡ []) × (next ≡ ts)) ⊎ (Begins ts line.bytes next ⊎ Adds ts line.bytes next)
    → recs_by_name name next ≡ recs_by_name name ts ++ option_to_list (record_for name line)
unfolding line_record opened_line
line-adds name ts next line step =
    elim step [
      | inl passed ↦ rw (passed.1, passed.0, append-nil) refl
      | inr read ↦ elim read [
        | inl b ↦ begins-adds name ts next line.bytes b
        | inr a ↦ adds-adds name ts next line.bytes a
      ]
    ]

-- after any lines a tap's records are those from before, and then those of its own lines
pub lines-add : (name : List ℕ) (ts more : List Tap) (lines : List Line) → taps_from ts lines ≡ Ok more → recs_by_name name more ≡ recs_by_name name ts ++ records_for name lines
lines-add name ts more [] e = let same : ts ≡ more = cc in rw (same, append-nil) refl
lines-add name ts more (line ∷ lines) e =
    let first = first_of_lines ts more line lines e in
    lines-add name first.next more lines first.rest
    ∙ ap (λ rs. rs ++ records_for name lines) (line-adds name ts first.next line first.step)
    ∙ add_first (record_for name line) (recs_by_name name ts) (records_for name lines)

-- the taps that a bundle is read as have the records of their own lines, in order
pub own_lines : (lines : List Line) (taps : List Tap) → taps_of lines ≡ Ok taps → HaveTheirOwnLines lines taps
own_lines lines taps e name = sym (lines-add name [] taps lines e)

-- ---- the tap of a line

-- a tap has the name of a line that is read
some_tap : (name : List ℕ) (r : Rec) (ts more : List Tap) (line : Line) (lines : List Line) → taps_from ts (line ∷ lines) ≡ Ok more → line_record line.bytes ≡ Ok (name, r) → (t : Tap) × (tap_named name more ≡ Some t)
some_tap name r ts more line lines e reads =
    go (tap_named name more) refl (lines-add name ts more (line ∷ lines) e ∙ ap (λ o. recs_by_name name ts ++ cons_option o (records_for name lines)) records)
  where
    records : record_for name line ≡ Some r
    records = rw (reads, itself_text name) refl

    never : (before after : List Rec) → [] ≡ before ++ r ∷ after → ⊥
    never [] after h = cc
    never (x ∷ before) after h = cc

    go : (found : Option Tap) → tap_named name more ≡ found → recs_by_name name more ≡ recs_by_name name ts ++ r ∷ records_for name lines → (t : Tap) × (tap_named name more ≡ Some t)
    go (Some t) is h = (t, is)
    go None is h = absurd (never (recs_by_name name ts) (records_for name lines) (sym (ap (λ o. option_map_or recs_of o []) is) ∙ h))

-- where no tap has the name, none is counted
count-none : (name : List ℕ) (ts : List Tap) → AllByRecursion (λ other. is_text name other ≡ false) (names_of ts) → count_by (λ (u : Tap). is_text name u.name) ts ≡ 0
count-none name [] h = refl
count-none name (t ∷ ts) h = rw (sum_by-cons (λ (x : Tap). cond (is_text name x.name) 1 0) t ts, h.0, count-none name ts h.1) refl

-- names that differ leave one tap that has the name
count-one : (name : List ℕ) (ts : List Tap) (t : Tap) → IsDistinct is_text (names_of ts) → tap_named name ts ≡ Some t → count_by (λ (u : Tap). is_text name u.name) ts ≡ 1
unfolding IsDistinct
count-one name [] t different e = cc
count-one name (u ∷ us) t different e =
    elim (is_text name u.name) as (λ b. is_text name u.name ≡ b → cond b (Some u) (tap_named name us) ≡ Some t → count_by (λ (x : Tap). is_text name x.name) (u ∷ us) ≡ 1) [
      | true ↦ λ is h.
          let same : name ≡ u.name = same_text name u.name is in
          rw (sum_by-cons (λ (x : Tap). cond (is_text name x.name) 1 0) u us, is, same, count-none u.name us different.0) refl
      | false ↦ λ is h. rw (sum_by-cons (λ (x : Tap). cond (is_text name x.name) 1 0) u us, is, count-one name us t different.1 h) refl
    ] refl e

-- a line whose tap is there belongs to that tap alone, as no two have one name
of_one : (name : List ℕ) (r : Rec) (ts more : List Tap) (line : Line) (lines : List Line) → AreDifferent (names_of more) → taps_from ts (line ∷ lines) ≡ Ok more → line_record line.bytes ≡ Ok (name, r) → IsOfOneTap more line
of_one name r ts more line lines different e reads =
    let (t, named) = some_tap name r ts more line lines e reads in
    record { name = name; rec = r; reads = reads; one = count-one name more t (IsDistinct-from_AllPairs bytes_eq-Decides (names_of more) different) named }

-- after any lines, each that isn't empty belongs to one tap
each-line : (ts more : List Tap) (lines : List Line) → AreDifferent (names_of more) → taps_from ts lines ≡ Ok more → EachLineIsOfOneTap lines more
each-line ts more [] different e = All-nil _
each-line ts more (line ∷ lines) different e =
    let first = first_of_lines ts more line lines e in
    All-cons (λ (l : Line). l.bytes ≢ [] → IsOfOneTap more l) line lines
    (λ some. elim first.step [
      | inl passed ↦ absurd (some passed.0)
      | inr read ↦ elim read [
        | inl b ↦ of_one b.name (rec.Header b.of b.version) ts more line lines different e b.reads
        | inr a ↦ of_one a.name a.grown.rec ts more line lines different e a.reads
      ]
    ])
    (each-line first.next more lines different first.rest)

-- in a bundle that was read, each line that isn't empty belongs to one tap
pub each_line : (lines : List Line) (taps : List Tap) → AreDifferent (names_of taps) → taps_of lines ≡ Ok taps → EachLineIsOfOneTap lines taps
each_line lines taps different e = each-line [] taps lines different e
