-- How turns end from which records of other sessions are left out.
use Rattle.std.proofs.Common.{◌≡◌, ℕ, Bool, true, false, cond, List, [], ◌∷◌, ◌++◌, filter, Some, refl, sym, ap, ◌∙◌, arith}
use Rattle.std.proofs.lemmas.Option.{none-some, same_Some}
use Rattle.aud_tap.specs.declared.records.NodeRec.{NodeRec}
use Rattle.aud_node.specs.Lists.{is_empty}
use Rattle.aud_node.specs.Stream.{Text}
use Rattle.aud_rooms.specs.Turns.{Part, Inner, Last, Foreign, End, ByLog, part_of, end_past, turn_end}
use Rattle.aud_laws.proofs.LeftOut.Records.{IsOfAnother, LeavesOthers}

-- a record of another session stands inside a turn
another-inner : (pid : Text) (rec : NodeRec) → IsOfAnother pid rec → (k : ℕ) → part_of pid k rec ≡ Inner
another-inner pid rec is k = let names = is.names in let differs = is.differs in grind (arith, names, differs)

-- none ends its turn as a log does
no_log : (pid : Text) (k : ℕ) (rec : NodeRec) → part_of pid k rec ≡ Last ByLog → ⊥
no_log pid k rec e = grind (arith, e)

-- the last record is kept, if there is one
abbrev pub keeps_last : (NodeRec → Bool) → List NodeRec → Bool
keeps_last keep [] = true
keeps_last keep (rec ∷ recs) = cond (is_empty recs) (keep rec) (keeps_last keep recs)

-- so it is where one that is kept stands at the end
pub last-kept : (keep : NodeRec → Bool) (front : List NodeRec) (rec : NodeRec) → keep rec ≡ true → keeps_last keep (front ++ rec ∷ []) ≡ true
last-kept keep [] rec e = e
last-kept keep (x ∷ []) rec e = e
last-kept keep (x ∷ y ∷ front) rec e = last-kept keep (y ∷ front) rec e

-- where none is kept, and the last one would be, there is none
none-kept : (keep : NodeRec → Bool) (recs : List NodeRec) → keeps_last keep recs ≡ true → filter keep recs ≡ [] → recs ≡ []
none-kept keep [] e none = refl
none-kept keep (rec ∷ []) e none = absurd (let no : rec ∷ [] ≡ [] = ap (λ b. cond b (rec ∷ []) []) (sym e) ∙ none in cc)
none-kept keep (rec ∷ x ∷ recs) e none = go (keep rec) none (none-kept keep (x ∷ recs) e)
  where
    go : (b : Bool) → cond b (rec ∷ filter keep (x ∷ recs)) (filter keep (x ∷ recs)) ≡ [] → (filter keep (x ∷ recs) ≡ [] → x ∷ recs ≡ []) → rec ∷ x ∷ recs ≡ []
    go true left ih = absurd cc
    go false left ih = absurd (let none : x ∷ recs ≡ [] = ih left in cc)

module _ (pid : Text) (k : ℕ) (keep : NodeRec → Bool) (leaves : LeavesOthers keep pid) where
  -- what ends a turn ends it still
  pub end-there : (recs : List NodeRec) (end : End) → turn_end pid k recs ≡ Some end → turn_end pid k (filter keep recs) ≡ Some end
  end-there [] end e = e
  end-there (rec ∷ recs) end e = go (keep rec) refl (part_of pid k rec) refl e (end-there recs end)
    where
      go : (b : Bool) → keep rec ≡ b → (part : Part) → part_of pid k rec ≡ part → end_past part recs (turn_end pid k recs) ≡ Some end
          → (turn_end pid k recs ≡ Some end → turn_end pid k (filter keep recs) ≡ Some end)
          → turn_end pid k (cond b (rec ∷ filter keep recs) (filter keep recs)) ≡ Some end
      go true is Inner inner h ih = ap (λ q. end_past q (filter keep recs) (turn_end pid k (filter keep recs))) inner ∙ ih h
      go true is (Last last) ends h ih = over recs h
        where
          over : (recs : List NodeRec) → end_past (Last last) recs (turn_end pid k recs) ≡ Some end → end_past (part_of pid k rec) (filter keep recs) (turn_end pid k (filter keep recs)) ≡ Some end
          over [] h = ap (λ q. end_past q [] (Some ByLog)) ends ∙ h
          over (x ∷ xs) h = absurd (none-some end h)
      go true is Foreign foreign h ih = absurd (none-some end h)
      go false out part same h ih = ih (ap (λ q. end_past q recs (turn_end pid k recs)) (sym (another-inner pid rec (leaves rec out) k) ∙ same) ∙ h)

  -- and where the last record is kept, or the turn goes on to the end of its log, it did
  pub end-back : (recs : List NodeRec) (end : End) → ((end ≡ ByLog → ⊥) → keeps_last keep recs ≡ true) → turn_end pid k (filter keep recs) ≡ Some end → turn_end pid k recs ≡ Some end
  end-back [] end last e = e
  end-back (rec ∷ recs) end last e = go (keep rec) refl (part_of pid k rec) refl e (end-back recs end rest)
    where
      rest : (end ≡ ByLog → ⊥) → keeps_last keep recs ≡ true
      rest more = over recs (last more)
        where
          over : (recs : List NodeRec) → keeps_last keep (rec ∷ recs) ≡ true → keeps_last keep recs ≡ true
          over [] h = refl
          over (x ∷ xs) h = h

      go : (b : Bool) → keep rec ≡ b → (part : Part) → part_of pid k rec ≡ part → turn_end pid k (cond b (rec ∷ filter keep recs) (filter keep recs)) ≡ Some end
          → (turn_end pid k (filter keep recs) ≡ Some end → turn_end pid k recs ≡ Some end) → end_past part recs (turn_end pid k recs) ≡ Some end
      go false out part same h ih = ap (λ q. end_past q recs (turn_end pid k recs)) (sym same ∙ another-inner pid rec (leaves rec out) k) ∙ ih h
      go true is Inner inner h ih = ih (sym (ap (λ q. end_past q (filter keep recs) (turn_end pid k (filter keep recs))) inner) ∙ h)
      go true is Foreign foreign h ih = absurd (none-some end (sym (ap (λ q. end_past q (filter keep recs) (turn_end pid k (filter keep recs))) foreign) ∙ h))
      go true is (Last one) ends h ih = over (filter keep recs) refl (sym (ap (λ q. end_past q (filter keep recs) (turn_end pid k (filter keep recs))) ends) ∙ h)
        where
          over : (left : List NodeRec) → filter keep recs ≡ left → end_past (Last one) left (turn_end pid k left) ≡ Some end → end_past (Last one) recs (turn_end pid k recs) ≡ Some end
          over [] none h =
              let same : one ≡ end = same_Some one end h in
              let more : end ≡ ByLog → ⊥ = λ by. no_log pid k rec (ends ∙ ap Last (same ∙ by)) in
              ap (λ xs. end_past (Last one) xs (turn_end pid k xs)) (none-kept keep recs (rest more) none) ∙ h
          over (x ∷ xs) some h = absurd (none-some end h)
