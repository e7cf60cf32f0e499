-- Lines that are the same but for their order are read as the same taps.
use Rattle.std.proofs.Common.{◌≡◌, ℕ, List, [], ◌∷◌, ◌++◌, Bool, true, false, cond, ◌⊎◌, inl, inr, None, Result, Ok, Err, refl, sym, ap, subst, ◌∙◌, true≢false, arith}
use Rattle.aud_base.specs.Steps.{◌>>=◌}
use Rattle.aud_base.proofs.SameText.{itself_text}
use Rattle.aud_base.proofs.StepLemmas.{same-ok, part-of}
use Rattle.aud_tap.specs.declared.taps.Tap.{Tap}
use Rattle.aud_tap.specs.Forms.{is_text}
use Rattle.aud_reader.specs.declared.fault.ReadFault.{ReadFault}
use Rattle.aud_reader.specs.declared.line.Line.{Line}
use Rattle.aud_reader.specs.Bundle.{tap_named, pids_of, with_line, at_line, passing_empty, taps_after, taps_from, taps_of}
use Rattle.aud_reader.proofs.LineSteps.{at_line-ok}
use Rattle.aud_laws.specs.Order.{first_word, lines_of_tap, is_known, names_after, AreSameButForOrder, texts, AreReadAlike}
use Rattle.aud_laws.proofs.AnyOrder.Words.{with_name, after-new}
use Rattle.aud_laws.proofs.AnyOrder.Taps.{names_of, absent-among, AreFew}
use Rattle.aud_laws.proofs.AnyOrder.Effects.{few-after, names-next}
use Rattle.aud_laws.proofs.AnyOrder.Swaps.{swap}
use Rattle.aud_laws.proofs.AnyOrder.Fronts.{without_first, IsNext, passes, lines-front, names-front}

-- a line leads from these taps to the next; one without bytes is passed over
abbrev pub Leads : List Tap → List ℕ → List Tap → Type 0
Leads ts [] next = next ≡ ts
Leads ts (b ∷ line) next = with_line ts (b ∷ line) ≡ Ok next

-- lines lead from these taps to the last
abbrev pub AreRead : List Tap → List (List ℕ) → List Tap → Type 0
AreRead ts [] last = last ≡ ts
AreRead ts (line ∷ lines) last = (next : List Tap) × Leads ts line next × AreRead next lines last

-- ---- the first line of a name

-- one of the names of two lines is known, so that the lines may be swapped
one-known : (ts : List Tap) (name word : List ℕ) → (is_known (names_of ts) name ≡ true) ⊎ (is_known (names_of ts) word ≡ true) → tap_named name ts ≡ None → tap_named word ts ≡ None → ⊥
one-known ts name word (inl is) none _ = true≢false (sym is ∙ absent-among name ts none)
one-known ts name word (inr is) _ none = true≢false (sym is ∙ absent-among word ts none)

module _ (b : ℕ) (bs : List ℕ) (rest : List (List ℕ)) where
  -- the first line of the next name may be read before all others
  front : (lines : List (List ℕ)) (ts last : List Tap) → lines_of_tap (first_word (b ∷ bs)) lines ≡ (b ∷ bs) ∷ rest → IsNext (names_of ts) (first_word (b ∷ bs)) lines → AreFew (pids_of ts)
      → AreRead ts lines last → AreRead ts ((b ∷ bs) ∷ without_first (first_word (b ∷ bs)) lines) last
  front [] ts last e next few read = cc
  front ([] ∷ xs) ts last e next few (same, passed, read) =
      let (mid, leads, more) = front xs ts last e next few (subst (λ us. AreRead us xs last) passed read) in
      (mid, leads, (mid, refl, more))
  front ((c ∷ cs) ∷ xs) ts last e next few read =
      elim (is_text (first_word (b ∷ bs)) (first_word (c ∷ cs))) as (λ v. is_text (first_word (b ∷ bs)) (first_word (c ∷ cs)) ≡ v
      → cond v ((c ∷ cs) ∷ lines_of_tap (first_word (b ∷ bs)) xs) (lines_of_tap (first_word (b ∷ bs)) xs) ≡ (b ∷ bs) ∷ rest
      → AreRead ts ((b ∷ bs) ∷ cond v xs ((c ∷ cs) ∷ without_first (first_word (b ∷ bs)) xs)) last) [
        | true ↦ λ is h. let same : c ∷ cs ≡ b ∷ bs = cc in subst (λ l. AreRead ts (l ∷ xs) last) same read
        | false ↦ λ is h.
            let pass = passes (names_of ts) (first_word (b ∷ bs)) c cs xs is next in
            let known = names-next ts read.0 (c ∷ cs) read.1 in
            let on = front xs read.0 last h (subst (λ ns. IsNext ns (first_word (b ∷ bs)) xs) (sym known) pass.still) (few-after ts read.0 (c ∷ cs) read.1 few) read.2 in
            let both = swap ts read.0 on.0 (c ∷ cs) (b ∷ bs) few is (one-known ts (first_word (b ∷ bs)) (first_word (c ∷ cs)) pass.one) read.1 on.1 in
            (both.next, both.before, (on.0, both.after, on.2))
      ] refl e

-- ---- all lines

-- the same lines but for their order, where these names are known
pub record AreSameFrom (known : List (List ℕ)) (lines others : List (List ℕ)) : Type 0 where
  pub each : (name : List ℕ) → lines_of_tap name lines ≡ lines_of_tap name others
  pub names : names_after known lines ≡ names_after known others

-- lines of no name have no bytes, and lead nowhere
no-lines : (lines : List (List ℕ)) (ts last : List Tap) → ((name : List ℕ) → lines_of_tap name lines ≡ []) → AreRead ts lines last → last ≡ ts
no-lines [] ts last none read = read
no-lines ([] ∷ lines) ts last none read = no-lines lines read.0 last none read.2 ∙ read.1
no-lines ((b ∷ bs) ∷ lines) ts last none read =
    let name = first_word (b ∷ bs) in
    let some : cond true ((b ∷ bs) ∷ lines_of_tap name lines) (lines_of_tap name lines) ≡ [] = ap (λ v. cond v ((b ∷ bs) ∷ lines_of_tap name lines) (lines_of_tap name lines)) (sym (itself_text name)) ∙ none name in
    cc

-- a line that stands first in both may be left out
rest-same : (known : List (List ℕ)) (b : ℕ) (bs : List ℕ) (lines others : List (List ℕ)) → AreSameFrom known ((b ∷ bs) ∷ lines) ((b ∷ bs) ∷ others) → AreSameFrom (with_name known (first_word (b ∷ bs))) lines others
rest-same known b bs lines others same =
    record {
      each = λ name. left (is_text name (first_word (b ∷ bs))) (lines_of_tap name lines) (lines_of_tap name others) (same.each name);
      names = rest (is_known known (first_word (b ∷ bs))) same.names;
    }
  where
    left : (v : Bool) (some more : List (List ℕ)) → cond v ((b ∷ bs) ∷ some) some ≡ cond v ((b ∷ bs) ∷ more) more → some ≡ more
    left true some more e = cc
    left false some more e = e

    rest : (v : Bool) → cond v (names_after known lines) (first_word (b ∷ bs) ∷ names_after (known ++ first_word (b ∷ bs) ∷ []) lines) ≡ cond v (names_after known others) (first_word (b ∷ bs) ∷ names_after (known ++ first_word (b ∷ bs) ∷ []) others)
        → names_after (cond v known (known ++ first_word (b ∷ bs) ∷ [])) lines ≡ names_after (cond v known (known ++ first_word (b ∷ bs) ∷ [])) others
    rest true e = e
    rest false e = cc

-- the name of the first line of the others is the next one
next-of : (known : List (List ℕ)) (b : ℕ) (bs : List ℕ) (lines others : List (List ℕ)) → names_after known lines ≡ names_after known ((b ∷ bs) ∷ others) → IsNext known (first_word (b ∷ bs)) lines
next-of known b bs lines others same = by (is_known known (first_word (b ∷ bs))) refl
  where
    by : (v : Bool) → is_known known (first_word (b ∷ bs)) ≡ v → IsNext known (first_word (b ∷ bs)) lines
    by true is = inl is
    by false is = inr (names_after (known ++ first_word (b ∷ bs) ∷ []) others, same ∙ after-new known b bs others is)

-- lines that are read are read in the other order too
pub read-again : (others lines : List (List ℕ)) (ts last : List Tap) → AreSameFrom (names_of ts) lines others → AreFew (pids_of ts) → AreRead ts lines last → AreRead ts others last
read-again [] lines ts last same few read = no-lines lines ts last same.each read
read-again ([] ∷ others) lines ts last same few read = (ts, refl, read-again others lines ts last (record { each = same.each; names = same.names }) few read)
read-again ((b ∷ bs) ∷ others) lines ts last same few read =
    let name = first_word (b ∷ bs) in
    let left = without_first name lines in
    let first : lines_of_tap name lines ≡ (b ∷ bs) ∷ lines_of_tap name others = same.each name ∙ ap (λ v. cond v ((b ∷ bs) ∷ lines_of_tap name others) (lines_of_tap name others)) (itself_text name) in
    let next = next-of (names_of ts) b bs lines others same.names in
    let on : AreRead ts ((b ∷ bs) ∷ left) last = front b bs (lines_of_tap name others) lines ts last first next few read in
    let after = rest-same (names_of ts) b bs left others (record {
      each = λ k. lines-front b bs (lines_of_tap name others) k lines first ∙ same.each k;
      names = names-front b bs (lines_of_tap name others) (names_of ts) lines first next ∙ same.names;
    }) in
    (on.0, on.1, read-again others left on.0 last (subst (λ ns. AreSameFrom ns left others) (sym (names-next ts on.0 (b ∷ bs) on.1)) after) (few-after ts on.0 (b ∷ bs) on.1 few) on.2)

-- ---- lines with numbers

-- what a line that is read leads to
pub leads-from : (ts next : List Tap) (n : ℕ) (line : List ℕ) → passing_empty ts n line ≡ Ok next → Leads ts line next
leads-from ts next n [] e = sym (same-ok _ _ e)
leads-from ts next n (b ∷ line) e = at_line-ok n (with_line ts (b ∷ line)) next e

-- and it is read as that under any number
pub leads-to : (ts next : List Tap) (n : ℕ) (line : List ℕ) → Leads ts line next → passing_empty ts n line ≡ Ok next
leads-to ts next n [] e = ap (λ (us : List Tap). Ok us) (sym e)
leads-to ts next n (b ∷ line) e = ap (at_line n) e

-- lines that are read as taps
pub read-from : (lines : List Line) (ts last : List Tap) → taps_from ts lines ≡ Ok last → AreRead ts (texts lines) last
read-from [] ts last e = sym (same-ok _ _ e)
read-from (line ∷ lines) ts last e =
    let first = part-of (taps_after ts line) _ last e in
    (first.0, leads-from ts first.0 line.number line.bytes first.1, read-from lines first.0 last first.2)

-- and back
pub read-to : (lines : List Line) (ts last : List Tap) → AreRead ts (texts lines) last → taps_from ts lines ≡ Ok last
read-to [] ts last read = ap (λ (us : List Tap). Ok us) (sym read)
read-to (line ∷ lines) ts last read =
    ap (λ (r : Result (List Tap) ReadFault). r >>= (λ more. taps_from more lines)) (leads-to ts read.0 line.number line.bytes read.1) ∙ read-to lines read.0 last read.2

-- ---- the law

-- the same but for their order, the other way round
pub same-back : (lines others : List (List ℕ)) → AreSameButForOrder lines others → AreSameButForOrder others lines
same-back lines others same = record { each = λ name. sym (same.each name); names = sym same.names }

-- lines that are the same but for their order are read from no taps alike
pub read-same : (lines others : List (List ℕ)) (last : List Tap) → AreSameButForOrder lines others → AreRead [] lines last → AreRead [] others last
read-same lines others last same = read-again others lines [] last (record { each = same.each; names = same.names }) (record { few = omega arith })

-- where each of two readings brings the other, they are alike
pub alike : {A E : Type 0} (one other : Result A E) → ((x : A) → one ≡ Ok x → other ≡ Ok x) → ((x : A) → other ≡ Ok x → one ≡ Ok x) → AreReadAlike one other
alike (Ok x) (Ok y) there back = same-ok x y (sym (there x refl))
alike (Ok x) (Err f) there back = let no : ◌≡◌ {A = Result _ _} (Err f) (Ok x) = there x refl in cc
alike (Err e) (Ok y) there back = let no : ◌≡◌ {A = Result _ _} (Err e) (Ok y) = back y refl in cc
alike (Err e) (Err f) there back = tt

-- lines with numbers are read alike in either order
pub taps-alike : (lines others : List Line) → AreSameButForOrder (texts lines) (texts others) → AreReadAlike (taps_of lines) (taps_of others)
taps-alike lines others same =
    alike (taps_of lines) (taps_of others)
    (λ last e. read-to others [] last (read-same (texts lines) (texts others) last same (read-from lines [] last e)))
    (λ last e. read-to lines [] last (read-same (texts others) (texts lines) last (same-back (texts lines) (texts others) same) (read-from others [] last e)))
