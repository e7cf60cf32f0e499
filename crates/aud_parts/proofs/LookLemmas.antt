-- What looking at a line leaves.
use Rattle.std.proofs.Common.{◌≡◌, ℕ, ◌+◌, ◌-◌, ◌<◌, ◌≤◌, ◌==◌, nat_lt, List, [], ◌∷◌, ◌++◌, length, length-take, take, Bool, true, false, cond, inl, inr, Option, Some, None, is_some, Result, Ok, Err, OnOk, slice_get, bytes_eq, refl, sym, ap, ◌∙◌, subst, arith}
use Rattle.std.specs.Int.{from_bool}
use Rattle.std.proofs.lemmas.Bool.{cases_Bool, lt-ltb, ltb-true}
use Rattle.aud_base.specs.Places.{noted as place_noted, places_of}
use Rattle.aud_node.specs.Lists.{is_empty}
use Rattle.aud_reader.specs.declared.fault.InputCode.TheVariants.{LineTooLong, NoTapName}
use Rattle.aud_reader.specs.declared.fault.ReadFault.TheVariants.{Input}
use Rattle.aud_reader.specs.Lines.{is_too_long, without_return}
use Rattle.aud_input.specs.LineName.{name_of}
use Rattle.aud_parts.specs.declared.tap_index.Begun.{Begun}
use Rattle.aud_parts.specs.declared.tap_index.TapIndex.{TapIndex}
use Rattle.aud_parts.specs.declared.tap_index.tap_runs.Run.{Run}
use Rattle.aud_parts.specs.declared.tap_index.tap_runs.RunsByTap.{RunsByTap}
use Rattle.aud_parts.specs.TapRuns.{TapRuns}
use Rattle.aud_parts.specs.IndexSoFar.{AreOnce, Indexed, IsBegun, KeepsPlaces, Notes, changed, ends_in_return, noted, noted_at, noted_in, place_in, refused, run_of, so_far, with_bytes, with_line, with_name, with_run}
use Rattle.aud_parts.specs.Private.IndexSteps.{Looks, placed_at}
use Rattle.aud_parts.proofs.NotedLemmas.{once-changed, once-push, place-changed, places-push}

-- ---- a line is noted

-- in a tap that is there
pub noted-there : {T E : Type 0} (r : Result T E) (old new : RunsByTap) (name : List ℕ) (line : Run) (place : ℕ) → place_in old.taps.items name ≡ Some place → KeepsPlaces old
    → OnOk r (new.taps.items ≡ changed (with_run (place == old.last) line) old.taps.items place) → new.last ≡ place → ((other : List ℕ) → places_of new.places other ≡ places_of old.places other)
    → OnOk r (Notes old new name line)
noted-there (Err e) old new name line place at keeps put last same = tt
noted-there (Ok x) old new name line place at keeps put last same = record {
  taps =
      ap (λ ts. record { taps = ts; last = new.last }) put
      ∙ ap (λ k. record { taps = changed (with_run (place == old.last) line) old.taps.items place; last = k }) last
      ∙ sym (ap (λ o. noted_at o (noted_in old) name line) at);
  keeps = record {
    places = λ q. ap (λ xs. slice_get xs 0) (same q) ∙ keeps.places q ∙ sym (place-changed (place == old.last) line old.taps.items place q) ∙ ap (λ ts. place_in ts q) (sym put);
    once = subst AreOnce (sym put) (once-changed (place == old.last) line old.taps.items place keeps.once);
  };
}

-- in a new one
pub noted-new : {T E : Type 0} (r : Result T E) (old new : RunsByTap) (name : List ℕ) (line : Run) → place_in old.taps.items name ≡ None → KeepsPlaces old
    → OnOk r (new.taps.items ≡ old.taps.items ++ record { name = name; runs = line ∷ [] } ∷ []) → OnOk r (new.last ≡ length old.taps.items)
    → OnOk r ((other : List ℕ) → places_of new.places other ≡ place_noted (length old.taps.items) (bytes_eq name other) (places_of old.places other))
    → OnOk r (Notes old new name line)
noted-new (Err e) old new name line none keeps put last places = tt
noted-new (Ok x) old new name line none keeps put last places =
    let t : TapRuns = record { name = name; runs = line ∷ [] } in
    record {
      taps =
          ap (λ ts. record { taps = ts; last = new.last }) put
          ∙ ap (λ k. record { taps = old.taps.items ++ t ∷ []; last = k }) last
          ∙ sym (ap (λ o. noted_at o (noted_in old) name line) none);
      keeps = record {
        places = λ q. places-push old.taps.items t q name (places_of old.places q) (places_of new.places q) refl none (keeps.places q) (places q) ∙ ap (λ ts. place_in ts q) (sym put);
        once = subst AreOnce (sym put) (once-push old.taps.items t none keeps.once);
      };
    }

-- ---- the line that has begun

-- its length without the carriage return at its end
pub measured-is : (b : Begun) (text : List ℕ) (ending size : ℕ) → IsBegun b b.from text → ending ≡ from_bool b.returns → size ≡ b.size - ending → size ≡ length (without_return text)
measured-is b text ending size begun ends less = less ∙ ap (λ n. n - ending) begun.sized ∙ ap (λ n. length text - n) (ends ∙ ap from_bool begun.returns) ∙ go (ends_in_return text)
  where
    go : (t : Bool) → length text - from_bool t ≡ length (cond t (take (length text - 1) text) text)
    go true = let size = length-take (length text - 1) text in omega (arith, size)
    go false = omega arith

not-less : (a b : ℕ) → b ≤ a → nat_lt a b ≡ false
not-less a b h = elim (cases_Bool (nat_lt a b)) [ inl yes1 ↦ let l = ltb-true a b yes1 in absurd (omega (arith, l, h)) | inr no1 ↦ no1 ]

pub looks-long : (s : TapIndex) (line : Run) (text : List ℕ) (size : ℕ) → KeepsPlaces s.runs → 4194304 < size → size ≡ length (without_return text)
    → Looks s (record s { fault = Some (Input line.number LineTooLong) }) (with_bytes (so_far s) (placed_at line text))
looks-long s line text size keeps long is =
    let e : is_too_long text ≡ true = lt-ltb 4194304 (length (without_return text)) (omega (arith, long, is)) in
    record {
      taps = sym (ap (λ b. cond b (refused (so_far s) (Input line.number LineTooLong)) (with_name (so_far s) (placed_at line text) (name_of text))) e);
      keeps = keeps;
      begun = refl;
      file = refl;
      number = refl;
    }

-- a line that isn't too long
by-name : (s : TapIndex) (line : Run) (text : List ℕ) (size : ℕ) (o : Option (List ℕ)) → size ≤ 4194304 → size ≡ length (without_return text) → name_of text ≡ o
    → with_bytes (so_far s) (placed_at line text) ≡ with_name (so_far s) (placed_at line text) o
by-name s line text size o short is named =
    ap (λ b. cond b (refused (so_far s) (Input line.number LineTooLong)) (with_name (so_far s) (placed_at line text) (name_of text))) (not-less 4194304 (length (without_return text)) (omega (arith, short, is)))
    ∙ ap (with_name (so_far s) (placed_at line text)) named

pub looks-unnamed : (s : TapIndex) (line : Run) (text : List ℕ) (size : ℕ) → KeepsPlaces s.runs → size ≤ 4194304 → size ≡ length (without_return text) → name_of text ≡ None
    → Looks s (record s { fault = Some (Input line.number NoTapName) }) (with_bytes (so_far s) (placed_at line text))
looks-unnamed s line text size keeps short is named = record {
  taps = sym (by-name s line text size None short is named);
  keeps = keeps;
  begun = refl;
  file = refl;
  number = refl;
}

pub looks-named : {T E : Type 0} (r : Result T E) (s : TapIndex) (runs : RunsByTap) (line : Run) (text name : List ℕ) (size : ℕ) → line.to ≡ line.from + length text → size ≤ 4194304 → size ≡ length (without_return text)
    → name_of text ≡ Some name → OnOk r (Notes s.runs runs name line) → OnOk r (Looks s (record s { runs = runs }) (with_bytes (so_far s) (placed_at line text)))
looks-named (Err e) s runs line text name size to short is named notes = tt
looks-named (Ok x) s runs line text name size to short is named notes =
    let same : line ≡ run_of (placed_at line text) = ap (λ k. record { file = line.file; from = line.from; to = k; number = line.number }) to in
    record {
      taps =
          ap (λ n. record { noted = n; fault = s.fault }) (notes.taps ∙ ap (noted (noted_in s.runs) name) same)
          ∙ sym (by-name s line text size (Some name) short is named);
      keeps = notes.keeps;
      begun = refl;
      file = refl;
      number = refl;
    }

-- ---- the line without bytes, and any line after a refusal

past : (x y : Indexed) (b c : Bool) → c ≡ true → cond b x (cond c x y) ≡ x
past x y true c e = refl
past x y false c e = ap (λ d. cond d x y) e

no_bytes : (l : List ℕ) → length l ≡ 0 → is_empty l ≡ true
no_bytes [] e = refl
no_bytes (b ∷ l) e = absurd (omega (arith, e))

some_bytes : (l : List ℕ) → (length l ≡ 0 → ⊥) → is_empty l ≡ false
some_bytes [] h = absurd (h refl)
some_bytes (b ∷ l) h = refl

looks-same : (s : TapIndex) (x : Indexed) → KeepsPlaces s.runs → so_far s ≡ x → Looks s s x
looks-same s x keeps is = record { taps = is; keeps = keeps; begun = refl; file = refl; number = refl }

pub looks-past : (s : TapIndex) (line : Run) (text : List ℕ) → KeepsPlaces s.runs → is_some s.fault ≡ true → Looks s s (with_line (so_far s) (placed_at line text))
looks-past s line text keeps e =
    looks-same s (with_line (so_far s) (placed_at line text)) keeps (sym (past (so_far s) (with_bytes (so_far s) (placed_at line text)) (is_empty (without_return text)) (is_some s.fault) e))

pub looks-empty : (s : TapIndex) (line : Run) (text : List ℕ) (size : ℕ) → KeepsPlaces s.runs → size ≡ 0 → size ≡ length (without_return text) → Looks s s (with_line (so_far s) (placed_at line text))
looks-empty s line text size keeps none is =
    looks-same s (with_line (so_far s) (placed_at line text)) keeps
    (sym (ap (λ b. cond b (so_far s) (cond (is_some s.fault) (so_far s) (with_bytes (so_far s) (placed_at line text)))) (no_bytes (without_return text) (sym is ∙ none))))

pub looks-some : (s : TapIndex) (line : Run) (text : List ℕ) (size : ℕ) → (size ≡ 0 → ⊥) → size ≡ length (without_return text) → is_some s.fault ≡ false
    → with_bytes (so_far s) (placed_at line text) ≡ with_line (so_far s) (placed_at line text)
looks-some s line text size some is free =
    let e = some_bytes (without_return text) (λ none. some (is ∙ none)) in
    sym (ap (λ b. cond b (so_far s) (cond (is_some s.fault) (so_far s) (with_bytes (so_far s) (placed_at line text)))) e
    ∙ ap (λ b. cond b (so_far s) (with_bytes (so_far s) (placed_at line text))) free)
