-- Where a record that takes nothing stands.
use Rattle.std.proofs.Common.{◌≡◌, ℕ, Bool, true, false, cond, List, [], ◌∷◌, ◌++◌, refl, sym, ap, subst, ◌∙◌}
use Rattle.aud_tap.specs.declared.records.StreamRec.{StreamRec}
use Rattle.aud_tap.specs.declared.records.NodeRec.{NodeRec}
use Rattle.aud_node.specs.Cursors.{next_cursor}
use Rattle.aud_upgrade.specs.Private.Told.{Told, Parted, is_taking, told, told_at, cursor_over}

none : (before : List Told) (at : Told) (after : List Told) → [] ≡ before ++ at ∷ after → ⊥
none [] at after e = cc
none (x ∷ before) at after e = cc

module _ (stream : List StreamRec) where
  -- one record more before those
  further : (number cursor : ℕ) (rec : NodeRec) (recs : List NodeRec) (before : List Told) (at : Told) (after : List Told) (more : List Told)
      → ((front : List NodeRec) → told stream number cursor (rec ∷ front) ≡ more ++ told stream 1 (next_cursor stream number rec cursor) front)
      → Parted stream 1 (next_cursor stream number rec cursor) recs before at after → Parted stream number cursor (rec ∷ recs) (more ++ before) at after
  further number cursor rec recs before at after more step p =
      record {
        front = rec ∷ p.front;
        back = p.back;
        is = ap (λ xs. rec ∷ xs) p.is;
        quiet = p.quiet;
        fronts = step p.front ∙ ap (λ xs. more ++ xs) p.fronts;
        here = p.here;
        backs = p.backs;
        end = p.end;
      }

  -- a record that is told stands in the log, between those that are told before and after it
  pub parted : (number cursor : ℕ) (log : List NodeRec) (before : List Told) (at : Told) (after : List Told) → told stream number cursor log ≡ before ++ at ∷ after
      → Parted stream number cursor log before at after
  parted number cursor [] before at after e = absurd (none before at after e)
  parted number cursor (rec ∷ recs) before at after e = go (is_taking rec) refl (λ before. parted 1 (next_cursor stream number rec cursor) recs before at after) before e
    where
      rest : List Told
      rest = told stream 1 (next_cursor stream number rec cursor) recs

      go : (b : Bool) → is_taking rec ≡ b → ((before : List Told) → rest ≡ before ++ at ∷ after → Parted stream 1 (next_cursor stream number rec cursor) recs before at after)
          → (before : List Told) → cond b rest (told_at stream number cursor rec ∷ rest) ≡ before ++ at ∷ after → Parted stream number cursor (rec ∷ recs) before at after
      go true taking ih before e = further number cursor rec recs before at after [] (λ front. rw taking refl) (ih before e)
      go false quiet ih [] e =
          let same : told_at stream number cursor rec ≡ at = cc in
          let others : rest ≡ after = cc in
          let cursors : next_cursor stream number rec cursor ≡ at.cursor = ap (λ t. t.cursor) same in
          record {
            front = [];
            back = recs;
            is = ap (λ (t : Told). t.rec ∷ recs) same;
            quiet = ap (λ (t : Told). is_taking t.rec) (sym same) ∙ quiet;
            fronts = refl;
            here = ap (λ (t : Told). next_cursor stream number t.rec cursor) (sym same) ∙ cursors;
            backs = ap (λ c. told stream 1 c recs) (sym cursors) ∙ others;
            end = ap (λ c. cursor_over stream 1 c recs) (sym cursors);
          }
      go false quiet ih (x ∷ before) e =
          let same : told_at stream number cursor rec ≡ x = cc in
          let others : rest ≡ before ++ at ∷ after = cc in
          let p : Parted stream number cursor (rec ∷ recs) (told_at stream number cursor rec ∷ before) at after =
          further number cursor rec recs before at after (told_at stream number cursor rec ∷ []) (λ front. rw quiet refl) (ih before others) in
          subst (λ y. Parted stream number cursor (rec ∷ recs) (y ∷ before) at after) same p
