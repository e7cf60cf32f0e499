-- The cursors of a log from which records of other sessions are left out.
use Rattle.std.proofs.Common.{◌≡◌, ℕ, zero, suc, Bool, true, false, cond, ◌||◌, not, List, [], ◌∷◌, filter, Option, Some, None, slice_get, refl, sym, ap, ◌∙◌, arith}
use Rattle.std.proofs.lemmas.Option.{none-some, same_Some}
use Rattle.aud_tap.specs.declared.records.StreamRec.{StreamRec}
use Rattle.aud_tap.specs.declared.records.NodeRec.{NodeRec}
use Rattle.aud_node.specs.Cursors.{next_cursor, cursor_past, cursor_at}
use Rattle.aud_node.specs.Stream.{Text}
use Rattle.aud_parts.specs.LeftOut.{is_start, begins_with_start, keeps_first}
use Rattle.aud_laws.proofs.LeftOut.Places.{moved, moved-none, moved-next, moved-past, moved-end, at-moved}
use Rattle.aud_laws.proofs.LeftOut.Records.{LeavesOthers, another-next, next-later, next-suc}

-- what records begin with, by the first one
front-start : (recs : List NodeRec) (rec : NodeRec) → slice_get recs 0 ≡ Some rec → begins_with_start recs ≡ is_start rec
front-start [] rec at = absurd (none-some rec at)
front-start (x ∷ xs) rec at = ap is_start (same_Some x rec at)

-- the first record that is kept, where records before it are left out, is no `start`
pub first-kept : (keep : NodeRec → Bool) (log : List NodeRec) (i : ℕ) (rec : NodeRec) → keeps_first keep log ≡ true → slice_get log (suc i) ≡ Some rec → keep rec ≡ true → moved keep log (suc i) ≡ 0
    → is_start rec ≡ false
first-kept keep [] i rec starts at kept first = absurd (none-some rec at)
first-kept keep (x ∷ xs) i rec starts at kept first = go (keep x) starts first
  where
    go : (b : Bool) → (b || not (begins_with_start (filter keep xs))) ≡ true → cond b (suc (moved keep xs i)) (moved keep xs i) ≡ 0 → is_start rec ≡ false
    go true is none = absurd (let no : suc (moved keep xs i) ≡ 0 = none in omega arith)
    go false is none =
        let at0 : slice_get (filter keep xs) 0 ≡ Some rec = ap (slice_get (filter keep xs)) (sym none) ∙ at-moved keep xs i rec at kept in
        let same = front-start (filter keep xs) rec at0 in
        grind (arith, is, same)

module _ (stream : List StreamRec) (pid : Text) (keep : NodeRec → Bool) (leaves : LeavesOthers keep pid) (log : List NodeRec) (starts : keeps_first keep log ≡ true) where
  -- a record that is kept moves the cursor as it did
  next-same : (i : ℕ) (rec : NodeRec) → slice_get log i ≡ Some rec → keep rec ≡ true → (cursor : ℕ) → next_cursor stream (moved keep log i) rec cursor ≡ next_cursor stream i rec cursor
  next-same zero rec at kept cursor = ap (λ n. next_cursor stream n rec cursor) (moved-none keep log)
  next-same (suc i) rec at kept cursor = go (moved keep log (suc i)) refl
    where
      go : (n : ℕ) → moved keep log (suc i) ≡ n → next_cursor stream n rec cursor ≡ next_cursor stream (suc i) rec cursor
      go zero e = next-later stream 0 rec cursor (first-kept keep log i rec starts at kept e) ∙ sym (next-suc stream i rec cursor)
      go (suc n) e = next-suc stream n rec cursor ∙ sym (next-suc stream i rec cursor)

  -- the cursor stands where it stood
  pub cursor-moved : (i : ℕ) → cursor_at stream (filter keep log) (moved keep log i) ≡ cursor_at stream log i
  cursor-moved zero = ap (cursor_at stream (filter keep log)) (moved-none keep log)
  cursor-moved (suc i) = go (slice_get log i) refl (cursor-moved i)
    where
      go : (o : Option NodeRec) → slice_get log i ≡ o → cursor_at stream (filter keep log) (moved keep log i) ≡ cursor_at stream log i
          → cursor_at stream (filter keep log) (moved keep log (suc i)) ≡ cursor_past stream i o (cursor_at stream log i)
      go None at ih = ap (cursor_at stream (filter keep log)) (moved-end keep log i at) ∙ ih
      go (Some rec) at ih = further (keep rec) refl
        where
          further : (b : Bool) → keep rec ≡ b → cursor_at stream (filter keep log) (moved keep log (suc i)) ≡ next_cursor stream i rec (cursor_at stream log i)
          further false out = ap (cursor_at stream (filter keep log)) (moved-past keep log i rec at out) ∙ ih ∙ sym (another-next pid rec (leaves rec out) stream i (cursor_at stream log i))
          further true is =
              ap (cursor_at stream (filter keep log)) (moved-next keep log i rec at is)
              ∙ ap (λ p. cursor_past stream (moved keep log i) p (cursor_at stream (filter keep log) (moved keep log i))) (at-moved keep log i rec at is)
              ∙ ap (next_cursor stream (moved keep log i) rec) ih
              ∙ next-same i rec at is (cursor_at stream log i)
