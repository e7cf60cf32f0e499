-- In which of several files a line stands.
use Rattle.std.proofs.Common.{◌≡◌, ℕ, zero, suc, ◌+◌, ◌-◌, ◌<◌, ◌≤◌, nat_le, List, [], ◌∷◌, ◌++◌, flat_map, length, inl, inr, Some, slice_get, refl, sym, ap, ◌∙◌, arith}
use Rattle.std.proofs.lemmas.Bool.{cases_Bool, leb-true, leb-false}
use Rattle.std.proofs.lemmas.Option.{none-some, same_Some}
use Rattle.aud_reader.specs.Lines.{line_pieces}
use Rattle.aud_input.specs.InputFiles.{input_files, place_in}
use Rattle.aud_input.specs.Sources.{LinesAreThoseOfFiles}
use Rattle.aud_laws.specs.Places.{LinesStandWhereTold, lines_of_each}

-- what stands within the first of two lists
in-front : {X : Type 0} (xs ys : List X) (i : ℕ) → i < length xs → slice_get (xs ++ ys) i ≡ slice_get xs i
in-front [] ys i h = absurd (omega (arith, h))
in-front (x ∷ xs) ys zero h = refl
in-front (x ∷ xs) ys (suc i) h = in-front xs ys i (omega (arith, h))

-- what stands past it
past : {X : Type 0} (xs ys : List X) (i : ℕ) → slice_get (xs ++ ys) (length xs + i) ≡ slice_get ys i
past [] ys i = let none : 0 + i ≡ i = omega arith in ap (slice_get ys) none
past (x ∷ xs) ys i = let more : length (x ∷ xs) + i ≡ suc (length xs + i) = omega arith in ap (slice_get (x ∷ xs ++ ys)) more ∙ past xs ys i

-- the line of this number of all lines
record Stands (names files : List (List ℕ)) (number : ℕ) (name : List ℕ) (own : ℕ) : Type 0 where
  place : ℕ
  file : List ℕ
  name_is : slice_get names place ≡ Some name
  file_is : slice_get files place ≡ Some file
  line_is : slice_get (line_pieces file) (own - 1) ≡ slice_get (flat_map line_pieces files) (number - 1)

stands : (names files : List (List ℕ)) (number : ℕ) (name : List ℕ) (own : ℕ) → 1 ≤ number
    → place_in (input_files names (lines_of_each files)) number ≡ Some (name, own) → Stands names files number name own
stands [] files number name own from told = absurd (none-some (name, own) told)
stands (x ∷ names) [] number name own from told = absurd (none-some (name, own) told)
stands (x ∷ names) (file ∷ files) number name own from told =
    elim (cases_Bool (nat_le number (length (line_pieces file)))) [
      | inl here ↦
          let within : number ≤ length (line_pieces file) = leb-true number (length (line_pieces file)) here in
          let same : (x, number) ≡ (name, own) = same_Some (x, number) (name, own) (rw here at told) in
          let named : x ≡ name = ap (λ (p : List ℕ × ℕ). p.0) same in
          let numbered : number ≡ own = ap (λ (p : List ℕ × ℕ). p.1) same in
          record {
            place = 0;
            file = file;
            name_is = ap Some named;
            file_is = refl;
            line_is =
                ap (λ n. slice_get (line_pieces file) (n - 1)) (sym numbered)
                ∙ sym (in-front (line_pieces file) (flat_map line_pieces files) (number - 1) (omega (arith, within, from)));
          }
      | inr beyond ↦
          let size = length (line_pieces file) in
          let later : size < number = leb-false number size beyond in
          let rest = stands names files (number - size) name own (omega (arith, later)) (rw beyond at told) in
          let at : number - 1 ≡ size + (number - size - 1) = omega (arith, later) in
          record {
            place = suc rest.place;
            file = rest.file;
            name_is = rest.name_is;
            file_is = rest.file_is;
            line_is =
                rest.line_is ∙ sym (past (line_pieces file) (flat_map line_pieces files) (number - size - 1))
                ∙ ap (slice_get (line_pieces file ++ flat_map line_pieces files)) (sym at);
          }
    ]

pub lines_stand : LinesAreThoseOfFiles → LinesStandWhereTold
lines_stand all names files number name own from told =
    let it = stands names files number name own from told in
    record {
      place = it.place;
      file = it.file;
      name_is = it.name_is;
      file_is = it.file_is;
      line_is = it.line_is ∙ ap (λ pieces. slice_get pieces (number - 1)) (sym (all files));
    }
