-- Two neighbouring lines of different taps may be read in either order, where one of the taps is there already.
use Rattle.std.proofs.Common.{◌≡◌, ℕ, List, [], ◌∷◌, ◌++◌, Bool, true, false, ◌||◌, inl, inr, Some, None, Ok, refl, sym, ap, ◌∙◌}
use Rattle.std.proofs.lemmas.Cmp.{nat_list_eq_equiv}
use Rattle.std.proofs.lemmas.List.Folds.{list_any-append}
use Rattle.aud_tap.specs.declared.taps.Tap.{Tap}
use Rattle.aud_tap.specs.Forms.{is_text}
use Rattle.aud_reader.specs.Bundle.{tap_named, with_records, pids_of, with_line}
use Rattle.aud_reader.proofs.OwnLines.{named-other}
use Rattle.aud_laws.specs.Order.{first_word, is_known}
use Rattle.aud_laws.proofs.AnyOrder.Taps.{begun, either, named-push, named-past, with-push, with-with, room-with, AreFew, few-within, pids-begun, pids-with}
use Rattle.aud_laws.proofs.AnyOrder.Effects.{Begins, Adds, effect, few-after}

-- the second line first, and then the first
pub record Swapped (ts : List Tap) (first second : List ℕ) (last : List Tap) : Type 0 where
  pub next : List Tap
  pub before : with_line ts second ≡ Ok next
  pub after : with_line next first ≡ Ok last

-- pids without those of one record
less : (pids first second : Bool) → (pids || second) ≡ true → ((pids || first) || second) ≡ true
less true first second h = refl
less false true second h = refl
less false false second h = h

module _ (ts next last : List Tap) (x l : List ℕ) (few : AreFew (pids_of ts)) (other : is_text (first_word l) (first_word x) ≡ false) where
  -- the names differ the other way round
  differ : is_text (first_word x) (first_word l) ≡ false
  differ = nat_list_eq_equiv.symm (first_word x) (first_word l) ∙ other

  -- a header, and then a record of another tap
  header-record : Begins ts x next → Adds next l last → Swapped ts x l last
  header-record b a =
      let t = begun (first_word x) b.of b.version in
      let found : tap_named (first_word l) ts ≡ Some a.found = sym (ap (tap_named (first_word l)) b.is ∙ named-past (first_word l) ts t other) ∙ a.is_found in
      let pids : pids_of next ≡ pids_of ts = ap pids_of b.is ∙ pids-begun ts (first_word x) b.of b.version in
      let mid = with_records (first_word l) a.records ts in
      record {
        next = mid;
        before = a.again ts found (rw pids at (a.few (rw pids few)));
        after = b.again mid (named-other (first_word x) (first_word l) a.records ts differ ∙ b.new) (room-with (first_word l) a.records ts a.found found a.same b.of ∙ b.room)
            ∙ ap Ok (sym (a.is ∙ ap (with_records (first_word l) a.records) b.is ∙ with-push (first_word l) a.records ts t a.found found));
      }

  -- a record, and then the header of another tap
  record-header : Adds ts x next → Begins next l last → Swapped ts x l last
  record-header a b =
      let t = begun (first_word l) b.of b.version in
      let new : tap_named (first_word l) ts ≡ None = sym (ap (tap_named (first_word l)) a.is ∙ named-other (first_word l) (first_word x) a.records ts other) ∙ b.new in
      let mid = ts ++ t ∷ [] in
      record {
        next = mid;
        before = b.again ts new (sym (room-with (first_word x) a.records ts a.found a.is_found a.same b.of) ∙ (rw a.is at b.room));
        after = a.again mid (named-push (first_word x) ts t a.found a.is_found) (rw (pids-begun ts (first_word l) b.of b.version) (a.few few))
            ∙ ap Ok (sym (b.is ∙ ap (λ us. us ++ t ∷ []) a.is ∙ sym (with-push (first_word x) a.records ts t a.found a.is_found)));
      }

  -- two records of different taps
  record-record : Adds ts x next → Adds next l last → AreFew (pids_of next) → Swapped ts x l last
  record-record a c few_next =
      let found : tap_named (first_word l) ts ≡ Some c.found = sym (ap (tap_named (first_word l)) a.is ∙ named-other (first_word l) (first_word x) a.records ts other) ∙ c.is_found in
      let mid = with_records (first_word l) c.records ts in
      let all = c.few few_next in
      record {
        next = mid;
        before = c.again ts found (few-within (pids_of ts ++ c.more) (pids_of next ++ c.more) (λ q m. both q ∙ less (is_known (pids_of ts) q) (is_known a.more q) (is_known c.more q) (sym (list_any-append (is_text q) (pids_of ts) c.more) ∙ m)) all);
        after = a.again mid (named-other (first_word x) (first_word l) c.records ts differ ∙ a.is_found)
            (few-within (pids_of mid ++ a.more) (pids_of next ++ c.more)
            (λ q m. both q ∙ either (is_known (pids_of ts) q) (is_known a.more q) (is_known c.more q) ∙ ap (λ b. b || is_known a.more q) (sym (pids-with q (first_word l) c.records c.more ts c.found found c.pids)) ∙ sym (list_any-append (is_text q) (pids_of mid) a.more) ∙ m) all)
            ∙ ap Ok (sym (c.is ∙ ap (with_records (first_word l) c.records) a.is ∙ with-with (first_word l) (first_word x) c.records a.records ts other));
      }
    where
      both : (q : List ℕ) → is_known (pids_of next ++ c.more) q ≡ ((is_known (pids_of ts) q || is_known a.more q) || is_known c.more q)
      both q =
          list_any-append (is_text q) (pids_of next) c.more
          ∙ ap (λ b. b || is_known c.more q) (ap (λ us. is_known (pids_of us) q) a.is ∙ pids-with q (first_word x) a.records a.more ts a.found a.is_found a.pids)

-- two lines of different names, of which one has its tap
pub swap : (ts next last : List Tap) (x l : List ℕ) → AreFew (pids_of ts) → is_text (first_word l) (first_word x) ≡ false → (tap_named (first_word l) ts ≡ None → tap_named (first_word x) ts ≡ None → ⊥)
    → with_line ts x ≡ Ok next → with_line next l ≡ Ok last → Swapped ts x l last
swap ts next last x l few other one read_x read_l =
    elim (effect ts next x read_x) [
      | inl b ↦ elim (effect next last l read_l) [
        | inl c ↦ absurd (one (sym (ap (tap_named (first_word l)) b.is ∙ named-past (first_word l) ts (begun (first_word x) b.of b.version) other) ∙ c.new) b.new)
        | inr a ↦ header-record ts next last x l few other b a
      ]
      | inr a ↦ elim (effect next last l read_l) [
        | inl b ↦ record-header ts next last x l few other a b
        | inr c ↦ record-record ts next last x l few other a c (few-after ts next x read_x few)
      ]
    ]
