-- Lines, with what each says by itself.
use Rattle.std.proofs.Common.{◌≡◌, ℕ, zero, suc, ◌+◌, List, [], ◌∷◌, length, drop, ◌⊎◌, inl, inr, Option, Some, None, Result, Ok, Err, refl, sym, ◌∙◌, arith, add-one}
use Rattle.std.specs.List.{AllZip}
use Rattle.aud_reader.specs.declared.fault.InputCode.{InputCode}
use Rattle.aud_reader.specs.declared.fault.ReadFault.{ReadFault}
use Rattle.aud_reader.specs.declared.fault.ReadFault.TheVariants.{Input}
use Rattle.aud_reader.specs.declared.line.Line.{Line}
use Rattle.aud_reader.specs.declared.bundle.own_records.OwnRecord.{OwnRecord}
use Rattle.aud_reader.specs.declared.bundle.own_records.OwnRecord.TheVariants.{Placed, Unplaced, NoRecord}
use Rattle.aud_tap.specs.declared.records.Rec.{Rec}
use Rattle.aud_tap.specs.declared.taps.Tap.{Tap}
use Rattle.aud_reader.specs.Record.{opened_line, line_record}
use Rattle.aud_tap.specs.Names.{place_of}
use Rattle.aud_reader.specs.Bundle.{at_line, passing_empty, taps_from, Reading, taps_to_come, with_line}
use Rattle.aud_reader.specs.Private.OwnRecords.{IsOwnOf, AreOfLines}
use Rattle.aud_reader.proofs.KeptLemmas.{place_of-more, place_of-set, replaced}
use Rattle.aud_reader.proofs.LineSteps.{Begins, Adds, first_of_lines}

module _ {A B : Type 0} (R : A → B → Type 0) where
  -- what follows of the things at each place
  pub each_pair : (Q : A → B → Type 0) → ((x : A) (y : B) → R x y → Q x y) → (xs : List A) (ys : List B) → AllZip R xs ys → AllZip Q xs ys
  each_pair Q turn [] [] h = tt
  each_pair Q turn [] (y ∷ ys) h = absurd h
  each_pair Q turn (x ∷ xs) [] h = absurd h
  each_pair Q turn (x ∷ xs) (y ∷ ys) h = (turn x y h.0, each_pair Q turn xs ys h.1)

  -- where the first of those that are left is gone, the others are left
  pub others_left : (n : ℕ) (xs : List A) (y : B) (ys left : List B) → left ≡ y ∷ ys → AllZip R (drop n xs) left → AllZip R (drop (n + 1) xs) ys
  others_left n xs y ys left is h = rw add-one (go n xs (rw is at h))
    where
      go : (n : ℕ) (xs : List A) → AllZip R (drop n xs) (y ∷ ys) → AllZip R (drop (suc n) xs) ys
      go zero [] h = absurd h
      go zero (x ∷ xs) h = h.1
      go (suc n) [] h = absurd h
      go (suc n) (x ∷ xs) h = go n xs h

  -- where nothing is left of the one list, nothing is left of the other
  pub none_left : (xs : List A) (ys : List B) → length ys ≡ 0 → AllZip R xs ys → xs ≡ []
  none_left [] ys e h = refl
  none_left (x ∷ xs) [] e h = absurd h
  none_left (x ∷ xs) (y ∷ ys) e h = absurd (omega arith)

-- ---- the places of taps, as lines are read

-- each name that had a place has it still
abbrev KeepsPlaces : List Tap → List Tap → Type 0
KeepsPlaces before after = (name : List ℕ) (place : ℕ) → place_of before name ≡ Some place → place_of after name ≡ Some place

-- a line that begins a tap or adds to one leaves the places that names have
kept-step : (before after : List Tap) (line : List ℕ) → Begins before line after ⊎ Adds before line after → KeepsPlaces before after
kept-step before after line (inl b) = λ name place had. rw b.is (place_of-more name before _ place had)
kept-step before after line (inr a) = λ name place had.
    let (i, within, at, put) = replaced a.name a.records before a.found a.is_found in
    rw (a.is, put) (place_of-set name before i a.found (record a.found { records = a.records }) within at refl ∙ had)

-- and so do any lines that are read
kept-lines : (before after : List Tap) (lines : List Line) → taps_from before lines ≡ Ok after → KeepsPlaces before after
kept-lines before after [] e = let same : before ≡ after = cc in rw same (λ name place had. had)
kept-lines before after (line ∷ lines) e = λ name place had.
    let first = first_of_lines before after line lines e in
    kept-lines first.next after lines first.rest name place (elim first.step [
      | inl passed ↦ rw passed.1 had
      | inr read ↦ kept-step before first.next line.bytes read name place had
    ])

-- what is kept of a line stays right where the places do
own-kept : (before after : List Tap) (reading : Result (List ℕ × Rec) InputCode) (own : OwnRecord) → KeepsPlaces before after → IsOwnOf before reading own → IsOwnOf after reading own
own-kept before after reading (Placed place rec) keeps own = (own.0, own.1, keeps own.0 place own.2)
own-kept before after reading (Unplaced rec) keeps own = own
own-kept before after reading NoRecord keeps own = own

module _ (before after : Reading) (lines : List Line) (none : before.fault ≡ None) (going : after.fault ≡ None) (reads : taps_to_come after [] ≡ taps_to_come before lines) where
  -- a reader that has read more lines has the taps where they were
  places-kept : KeepsPlaces before.taps after.taps
  places-kept =
      let is : Ok after.taps ≡ taps_from before.taps lines = rw (none, going) at reads in
      kept-lines before.taps after.taps lines (sym is)

  -- so what is kept of the lines to come stays right
  pub lines-kept : (more : List Line) (own : List OwnRecord) → AreOfLines before.taps more own → AreOfLines after.taps more own
  lines-kept more own = each_pair _ _ (λ line record-of. own-kept before.taps after.taps (line_record line.bytes) record-of places-kept) more own

  -- also where the lines stand in parts
  pub parts-kept : {P R : Type 0} (lines_of : P → List Line) (own_of : R → List OwnRecord) (parts : List P) (own : List R) → AllZip (λ part records. AreOfLines before.taps (lines_of part) (own_of records)) parts own
      → AllZip (λ part records. AreOfLines after.taps (lines_of part) (own_of records)) parts own
  parts-kept lines_of own_of = each_pair _ _ (λ part records. lines-kept (lines_of part) (own_of records))

-- ---- one line

-- a line that says something by itself has bytes
some_bytes : (ts : List Tap) (number : ℕ) (bytes : List ℕ) (own : List ℕ × Rec) → line_record bytes ≡ Ok own → passing_empty ts number bytes ≡ at_line number (with_line ts bytes)
unfolding line_record opened_line
some_bytes ts number [] own e = cc
some_bytes ts number (b ∷ bytes) own e = refl

module _ (ts next : List Tap) (line : Line) (own : List ℕ × Rec) (more : List Line) (fault : Option ReadFault) (none : fault ≡ None) (reads : line_record line.bytes ≡ Ok own) where
  -- a line that was added: the taps with it have the others to come
  pub line_added : with_line ts line.bytes ≡ Ok next → taps_to_come (record { taps = next; fault = fault }) more ≡ taps_to_come (record { taps = ts; fault = fault }) (line ∷ more)
  line_added is = rw (none, some_bytes ts line.number line.bytes own reads, is) refl

  -- a line that was refused: the refusal stands
  pub line_refused : (code : InputCode) (after : Option ReadFault) → with_line ts line.bytes ≡ Err code → after ≡ Some (Input line.number code)
      → taps_to_come (record { taps = next; fault = after }) more ≡ taps_to_come (record { taps = ts; fault = fault }) (line ∷ more)
  line_refused code after is stands = rw (none, stands, some_bytes ts line.number line.bytes own reads, is) refl
