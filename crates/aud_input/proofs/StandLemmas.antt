-- The records of taps that are read, and the lines that are kept for them.
use Rattle.std.proofs.Common.{◌≡◌, ℕ, zero, suc, ◌+◌, ◌<◌, ◌≤◌, nat_lt, List, [], ◌∷◌, ◌++◌, length, Bool, true, false, cond, inl, inr, Option, Some, None, Ok, option_map, slice_get, bytes_eq, true≢false, refl, sym, ap, ◌∙◌, subst, arith, append_assoc, add-one}
use Rattle.std.specs.List.{AllZip, cons_option}
use Rattle.std.specs.Option.{option_and_then}
use Rattle.std.proofs.lemmas.Bool.{lt-ltb}
use Rattle.std.proofs.lemmas.Option.{none-some, same_Some}
use Rattle.aud_base.specs.Steps.{need}
use Rattle.aud_base.proofs.StepLemmas.{same-ok, part-of, guard-ok}
use Rattle.aud_base.proofs.SameText.{same_text, itself_text, other_text}
use Rattle.aud_tap.specs.Forms.{is_text, passing}
use Rattle.aud_tap.specs.TapName.{is_tap_name}
use Rattle.aud_tap.specs.declared.records.Rec.{Rec}
use Rattle.aud_tap.specs.declared.records.Rec.TheVariants as rec
use Rattle.aud_tap.specs.declared.records.TapKind.{TapKind}
use Rattle.aud_tap.specs.declared.records.TapKind.TheVariants as kind
use Rattle.aud_tap.specs.declared.records.Version.{Version}
use Rattle.aud_tap.specs.declared.taps.Records.{Records}
use Rattle.aud_tap.specs.declared.taps.Tap.{Tap}
use Rattle.aud_reader.specs.declared.line.Line.{Line}
use Rattle.aud_reader.specs.declared.fault.InputCode.TheVariants.{LineTooLong, NoTapName}
use Rattle.aud_reader.specs.Lines.{lines_from, lines_of, line_pieces, is_too_long, without_return}
use Rattle.aud_reader.specs.Record.{json_of, cut_at_blank, opened_line, value_record, line_record}
use Rattle.aud_reader.specs.Bundle.{tap_named, with_records, kind_of_tap, no_records, taps_from}
use Rattle.aud_reader.specs.OwnLines.{recs_in, recs_of}
use Rattle.aud_reader.proofs.Lists.{need-ok}
use Rattle.aud_reader.proofs.LineSteps.{first_of_lines}
use Rattle.aud_input.specs.LineName.{name_of}
use Rattle.aud_input.specs.TapLines.{NamedLine, TapLines, named_at, named_from, named_in, with_line, with_lines, kept_line, tap_lines_of}
use Rattle.aud_input.specs.RecordLines.{StandsOn, RecordsHaveTheirLines}
use Rattle.aud_input.proofs.ReturnLemmas.{name-without_return}

-- ---- lists side by side

zip-push : {A B : Type 0} (R : A → B → Type 0) (xs : List A) (ys : List B) (x : A) (y : B) → AllZip R xs ys → R x y → AllZip R (xs ++ x ∷ []) (ys ++ y ∷ [])
zip-push R [] [] x y all one = (one, tt)
zip-push R [] (b ∷ ys) x y all one = absurd all
zip-push R (a ∷ xs) [] x y all one = absurd all
zip-push R (a ∷ xs) (b ∷ ys) x y all one = (all.0, zip-push R xs ys x y all.1 one)

-- what stands beside an element
zip-at : {A B : Type 0} (R : A → B → Type 0) (xs : List A) (ys : List B) (i : ℕ) (x : A) → AllZip R xs ys → slice_get xs i ≡ Some x → (y : B) × (slice_get ys i ≡ Some y) × R x y
zip-at R [] ys i x all at = absurd (none-some x at)
zip-at R (a ∷ xs) [] i x all at = absurd all
zip-at R (a ∷ xs) (b ∷ ys) zero x all at = (b, refl, subst (λ c. R c b) (same_Some a x at) all.0)
zip-at R (a ∷ xs) (b ∷ ys) (suc i) x all at = zip-at R xs ys i x all.1 at

-- ---- the name of a line that is read

name-reads : (line name : List ℕ) (r : Rec) → line_record line ≡ Ok (name, r) → name_of line ≡ Some name
unfolding line_record opened_line
name-reads line name r e =
    let opened = part-of (opened_line line) _ (name, r) e in
    let value = part-of (value_record opened.0.1) _ (name, r) opened.2 in
    let fits = guard-ok LineTooLong _ _ opened.0 opened.1 in
    let cut = part-of (need NoTapName (cut_at_blank line)) _ opened.0 fits.1 in
    let named = guard-ok NoTapName (is_tap_name cut.0.0) _ opened.0 cut.2 in
    let d = part-of (json_of cut.0.1) _ opened.0 named.1 in
    let front : cut.0.0 ≡ opened.0.0 = ap (λ p. p.0) (same-ok _ _ d.2) in
    let own : opened.0.0 ≡ name = ap (λ p. p.0) (same-ok _ _ value.2) in
    let found = need-ok NoTapName cut.0 (cut_at_blank line) cut.1 in
    ap (λ o. option_and_then (λ parts. passing is_tap_name parts.0) o) found ∙ ap (λ b. cond b (Some cut.0.0) None) named.0 ∙ ap Some (front ∙ own)

named-reads : (line : Line) (name : List ℕ) (r : Rec) → line.number < 4294967295 → line_record line.bytes ≡ Ok (name, r) → named_at line.number line.bytes ≡ Some (record { number = line.number; name = name })
named-reads line name r below e = rw (lt-ltb line.number 4294967295 below, name-reads line.bytes name r e) refl

-- ---- taps and what is kept for them

-- a tap's header and records stand on the lines that are kept for it
abbrev Stands : List Line → Tap → TapLines → Type 0
Stands all t k = (k.name ≡ t.name) × AllZip (StandsOn all t.name) (recs_of t) k.numbers

kind-new : (of : TapKind) (version : Version) (name : List ℕ) → recs_of (record { name = name; version = version; records = no_records of }) ≡ rec.Header of version ∷ []
kind-new kind.Stream version name = refl
kind-new kind.Node version name = refl
kind-new kind.Client version name = refl

-- a header's tap is new among what is kept too
begins-stand : (all : List Line) (ts : List Tap) (ks : List TapLines) (t : Tap) (r : Rec) (n : ℕ) → AllZip (Stands all) ts ks → tap_named t.name ts ≡ None → recs_of t ≡ r ∷ [] → StandsOn all t.name r n
    → AllZip (Stands all) (ts ++ t ∷ []) (with_line ks (record { number = n; name = t.name }))
begins-stand all [] [] t r n stand new own on = ((refl, subst (λ rs. AllZip (StandsOn all t.name) rs (n ∷ [])) (sym own) (on, tt)), tt)
begins-stand all [] (k ∷ ks) t r n stand new own on = absurd stand
begins-stand all (u ∷ us) [] t r n stand new own on = absurd stand
begins-stand all (u ∷ us) (k ∷ ks) t r n stand new own on =
    elim (is_text t.name u.name) as (λ b. is_text t.name u.name ≡ b → cond b (Some u) (tap_named t.name us) ≡ None → AllZip (Stands all) (u ∷ us ++ t ∷ []) (with_line (k ∷ ks) (record { number = n; name = t.name }))) [
      | true ↦ λ e h. absurd (none-some u (sym h))
      | false ↦ λ e h.
          let differ : bytes_eq k.name t.name ≡ false = other_text k.name t.name (λ same. true≢false (sym (itself_text t.name) ∙ ap (bytes_eq t.name) (sym same ∙ stand.0.0) ∙ e)) in
          rw differ (stand.0, begins-stand all us ks t r n stand.1 h own on)
    ] refl new

-- a record's line is put after the others of its tap
adds-stand : (all : List Line) (ts : List Tap) (ks : List TapLines) (name : List ℕ) (found : Tap) (records : Records) (r : Rec) (n : ℕ) → AllZip (Stands all) ts ks → tap_named name ts ≡ Some found
    → recs_in records ≡ recs_in found.records ++ r ∷ [] → kind_of_tap records ≡ kind_of_tap found.records → StandsOn all name r n
    → AllZip (Stands all) (with_records name records ts) (with_line ks (record { number = n; name = name }))
adds-stand all [] ks name found records r n stand named more same on = absurd (none-some found named)
adds-stand all (u ∷ us) [] name found records r n stand named more same on = absurd stand
adds-stand all (u ∷ us) (k ∷ ks) name found records r n stand named more same on =
    elim (is_text name u.name) as (λ b. is_text name u.name ≡ b → cond b (Some u) (tap_named name us) ≡ Some found
    → AllZip (Stands all) (cond b (record u { records = records } ∷ us) (u ∷ with_records name records us)) (with_line (k ∷ ks) (record { number = n; name = name }))) [
      | true ↦ λ e h.
          let is : u ≡ found = same_Some u found h in
          let own : name ≡ u.name = same_text name u.name e in
          let equal : bytes_eq k.name name ≡ true = ap (λ a. bytes_eq a name) (stand.0.0 ∙ sym own) ∙ itself_text name in
          let grown : recs_of (record u { records = records }) ≡ recs_of u ++ r ∷ [] =
          ap (λ k2. rec.Header k2 u.version ∷ recs_in records) (same ∙ ap (λ (t : Tap). kind_of_tap t.records) (sym is))
          ∙ ap (λ rs. rec.Header (kind_of_tap u.records) u.version ∷ rs) (more ∙ ap (λ (t : Tap). recs_in t.records ++ r ∷ []) (sym is)) in
          rw equal ((stand.0.0, subst (λ rs. AllZip (StandsOn all u.name) rs (k.numbers ++ n ∷ [])) (sym grown) (zip-push (StandsOn all u.name) (recs_of u) k.numbers r n stand.0.1 (subst (λ a. StandsOn all a r n) own on))), stand.1)
      | false ↦ λ e h.
          let differ : bytes_eq k.name name ≡ false = other_text k.name name (λ eq. true≢false (sym (itself_text name) ∙ ap (bytes_eq name) (sym eq ∙ stand.0.0) ∙ e)) in
          rw differ (stand.0, adds-stand all us ks name found records r n stand.1 h more same on)
    ] refl named

-- the line is one of these
abbrev IsIn : List Line → Line → Type 0
IsIn all line = (place : ℕ) × (slice_get all place ≡ Some line)

-- each of the lines is one of these, and its number is kept
abbrev AreIn : List Line → List Line → Type 0
AreIn all [] = Unit {0}
AreIn all (line ∷ lines) = (IsIn all line × (line.number < 4294967295)) × AreIn all lines

on-line : (all : List Line) (line : Line) (name : List ℕ) (r : Rec) → IsIn all line → line_record line.bytes ≡ Ok (name, r) → StandsOn all name r line.number
on-line all line name r is reads = record { line = line; place = is.0; is = is.1; numbered = refl; reads = reads }

named-empty : (line : Line) → line.bytes ≡ [] → named_at line.number line.bytes ≡ None
named-empty line e = ap (named_at line.number) e ∙ go (nat_lt line.number 4294967295)
  where
    go : (b : Bool) → cond {A = Option NamedLine} b None None ≡ None
    go true = refl
    go false = refl

-- after any lines that are read, what is kept is that of the taps
lines-stand : (all : List Line) (ts more : List Tap) (ks : List TapLines) (lines : List Line) → AreIn all lines → taps_from ts lines ≡ Ok more → AllZip (Stands all) ts ks
    → AllZip (Stands all) more (with_lines ks (named_in lines))
lines-stand all ts more ks [] within e stand = subst (λ us. AllZip (Stands all) us ks) (same-ok ts more e) stand
lines-stand all ts more ks (line ∷ lines) within e stand =
    let first = first_of_lines ts more line lines e in
    elim first.step [
      | inl passed ↦ rw (named-empty line passed.0) (lines-stand all first.next more ks lines within.1 first.rest (subst (λ us. AllZip (Stands all) us ks) (sym passed.1) stand))
      | inr read ↦ elim read [
        | inl b ↦
            let t : Tap = record { name = b.name; version = b.version; records = no_records b.of } in
            rw (named-reads line b.name _ within.0.1 b.reads)
            (lines-stand all first.next more (with_line ks (record { number = line.number; name = b.name })) lines within.1 first.rest
            (subst (λ us. AllZip (Stands all) us (with_line ks (record { number = line.number; name = b.name }))) (sym b.is)
            (begins-stand all ts ks t _ line.number stand b.new (kind-new b.of b.version b.name) (on-line all line b.name _ within.0.0 b.reads))))
        | inr a ↦
            rw (named-reads line a.name _ within.0.1 a.reads)
            (lines-stand all first.next more (with_line ks (record { number = line.number; name = a.name })) lines within.1 first.rest
            (subst (λ us. AllZip (Stands all) us (with_line ks (record { number = line.number; name = a.name }))) (sym a.is)
            (adds-stand all ts ks a.name a.found a.records a.grown.rec line.number stand a.is_found a.grown.recs a.grown.same (on-line all line a.name _ within.0.0 a.reads))))
      ]
    ]

-- ---- the lines of a text

-- the lines of an input that is within its limits begin with the names of its pieces
pub named-text : (n : ℕ) (pieces : List (List ℕ)) → (lines_from n pieces).fault ≡ None → named_in (lines_from n pieces).lines ≡ named_from n pieces
named-text n [] whole = refl
named-text n (l ∷ ls) whole =
    elim (is_too_long l) as (λ b. is_too_long l ≡ b → named_in (lines_from n (l ∷ ls)).lines ≡ named_from n (l ∷ ls)) [
      | true ↦ λ e. absurd (none-some _ (sym (rw e at whole)))
      | false ↦ λ e.
          let rest : (lines_from (n + 1) ls).fault ≡ None = rw e at whole in
          rw e (ap (λ o. cons_option (cond (nat_lt n 4294967295) (option_map (λ name. record { number = n; name = name }) o) None) (named_in (lines_from (n + 1) ls).lines)) (name-without_return l) ∙ ap (cons_option (named_at n l)) (named-text (n + 1) ls rest))
    ] refl

after-before : (before : List Line) (line : Line) (rest : List Line) → slice_get (before ++ line ∷ rest) (length before) ≡ Some line
after-before [] line rest = refl
after-before (l ∷ before) line rest = after-before before line rest

-- the lines of an input are among these, where the front of these is the lines before
are-in : (n : ℕ) (pieces : List (List ℕ)) (before : List Line) (all : List Line) → all ≡ before ++ (lines_from n pieces).lines → n + length pieces ≤ 4294967295 → AreIn all (lines_from n pieces).lines
are-in n [] before all is h = tt
are-in n (l ∷ ls) before all is h =
    elim (is_too_long l) as (λ b. is_too_long l ≡ b → AreIn all (lines_from n (l ∷ ls)).lines) [
      | true ↦ λ e. rw e tt
      | false ↦ λ e.
          let line : Line = record { number = n; bytes = without_return l } in
          let here : all ≡ before ++ line ∷ (lines_from (n + 1) ls).lines = rw e at is in
          let at : slice_get all (length before) ≡ Some line = ap (λ xs. slice_get xs (length before)) here ∙ after-before before line (lines_from (n + 1) ls).lines in
          rw e (((length before, at), omega (arith, h)), are-in (n + 1) ls (before ++ line ∷ []) all (here ∙ sym (append_assoc before (line ∷ []) (lines_from (n + 1) ls).lines)) (omega (arith, h)))
    ] refl

-- ---- the law

-- a line is kept for each record, and the record is that of its line
pub records-stand : RecordsHaveTheirLines
records-stand text taps whole read few place number tap r at there =
    let all = (lines_of text).lines in
    let stand : AllZip (Stands all) taps (with_lines [] (named_in all)) = lines-stand all [] taps [] all (are-in 1 (line_pieces text) [] all refl (omega (arith, few))) read tt in
    let kept : with_lines [] (named_in all) ≡ tap_lines_of text = ap (with_lines []) (named-text 1 (line_pieces text) whole) in
    let (k, k_at, (same, zipped)) = zip-at (Stands all) taps (with_lines [] (named_in all)) place tap stand at in
    let (n, n_at, on) = zip-at (StandsOn all tap.name) (recs_of tap) k.numbers (suc number) r zipped there in
    record {
      number = n;
      kept =
          ap (λ ks. kept_line ks place number) (sym kept)
          ∙ ap (λ o. option_and_then (λ (t : TapLines). slice_get t.numbers (number + 1)) o) k_at
          ∙ ap (slice_get k.numbers) (add-one number)
          ∙ n_at;
      stands = on;
    }
