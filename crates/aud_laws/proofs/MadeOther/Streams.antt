-- A stream some of whose entries are `other`: what stays of it.
use Rattle.std.proofs.Common.{◌≡◌, ℕ, zero, suc, Bool, true, false, cond, List, [], ◌∷◌, map, Option, Some, None, option_map, refl, sym, ap, ◌∙◌, bytes_eq}
use Rattle.std.proofs.lemmas.Option.{none-some, same_Some, slice_get-map}
use Rattle.aud_tap.specs.declared.records.StreamRec.{StreamRec}
use Rattle.aud_tap.specs.declared.records.StreamRec.TheVariants.{Other}
use Rattle.aud_tap.specs.RecordFields.{offset_of}
use Rattle.aud_base.proofs.SameText.{same_text}
use Rattle.aud_node.specs.Stream.{Text, position, entry}
use Rattle.aud_node.specs.Recoverable.{is_recoverable}
use Rattle.aud_check.specs.Frames.{offset_or_empty, offset_at}
use Rattle.aud_parts.specs.MadeOther.{entry_left}

-- an entry that is no event isn't recoverable
pub other-not : (off : Text) → is_recoverable (Other off) ≡ false
unfolding is_recoverable
other-not off = refl

-- the entry at a position has the offset that was looked for
pub offset-there : (stream : List StreamRec) (off : Text) (p : ℕ) → position stream off ≡ Some p → (e : StreamRec) × (entry stream p ≡ Some e) × (offset_of e ≡ off)
offset-there [] off p at = absurd (none-some p at)
offset-there (e ∷ es) off p at = go (bytes_eq (offset_of e) off) refl at (offset-there es off)
  where
    go : (b : Bool) → bytes_eq (offset_of e) off ≡ b → cond b (Some 1) (option_map suc (position es off)) ≡ Some p
        → ((q : ℕ) → position es off ≡ Some q → (x : StreamRec) × (entry es q ≡ Some x) × (offset_of x ≡ off))
        → (x : StreamRec) × (entry (e ∷ es) p ≡ Some x) × (offset_of x ≡ off)
    go true is h ih = (e, ap (entry (e ∷ es)) (sym (same_Some 1 p h)), same_text (offset_of e) off is)
    go false differs h ih = further (position es off) refl h
      where
        later : (q : ℕ) (x : StreamRec) → entry es q ≡ Some x → entry (e ∷ es) (suc q) ≡ Some x
        later zero x here = absurd (none-some x here)
        later (suc q) x here = here

        further : (o : Option ℕ) → position es off ≡ o → option_map suc o ≡ Some p → (x : StreamRec) × (entry (e ∷ es) p ≡ Some x) × (offset_of x ≡ off)
        further None none k = absurd (none-some p k)
        further (Some q) is k =
            let (x, here, same) = ih q is in
            (x, ap (entry (e ∷ es)) (sym (same_Some (suc q) p k)) ∙ later q x here, same)

module _ (keeps : StreamRec → Bool) where
  -- an entry that is kept is as it was
  pub left-kept : (e : StreamRec) → keeps e ≡ true → entry_left keeps e ≡ e
  left-kept e is = ap (λ b. cond b e (Other (offset_of e))) is

  -- and one that isn't is `other`
  pub left-other : (e : StreamRec) → keeps e ≡ false → entry_left keeps e ≡ Other (offset_of e)
  left-other e is = ap (λ b. cond b e (Other (offset_of e))) is

  -- its offset stays
  pub offset-left : (e : StreamRec) → offset_of (entry_left keeps e) ≡ offset_of e
  offset-left e = go (keeps e)
    where
      go : (b : Bool) → offset_of (cond b e (Other (offset_of e))) ≡ offset_of e
      go true = refl
      go false = refl

  -- offsets stand where they stood
  pub position-left : (stream : List StreamRec) (off : Text) → position (map (entry_left keeps) stream) off ≡ position stream off
  position-left [] off = refl
  position-left (e ∷ es) off =
      ap (λ it. cond (bytes_eq it off) (Some 1) (option_map suc (position (map (entry_left keeps) es) off))) (offset-left e)
      ∙ ap (λ o. cond (bytes_eq (offset_of e) off) (Some 1) (option_map suc o)) (position-left es off)

  -- the entry at a position
  pub entry-left : (stream : List StreamRec) (p : ℕ) → entry (map (entry_left keeps) stream) p ≡ option_map (entry_left keeps) (entry stream p)
  entry-left stream zero = refl
  entry-left stream (suc i) = slice_get-map (entry_left keeps) stream i

  -- the offset at a position
  pub offset_at-left : (stream : List StreamRec) (p : ℕ) → offset_at (map (entry_left keeps) stream) p ≡ offset_at stream p
  offset_at-left stream p = ap offset_or_empty (entry-left stream p) ∙ go (entry stream p)
    where
      go : (o : Option StreamRec) → offset_or_empty (option_map (entry_left keeps) o) ≡ offset_or_empty o
      go None = refl
      go (Some e) = offset-left e
