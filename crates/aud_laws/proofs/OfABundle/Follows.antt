-- Each record of a client follows those before it.
use Rattle.std.proofs.Common.{◌≡◌, List, [], ◌∷◌, ◌++◌, true, ◌⊎◌, inl, inr, refl, sym, ap, ◌∙◌}
use Rattle.aud_tap.specs.declared.records.ClientRec.{ClientRec}
use Rattle.aud_reader.specs.Connections.{may_follow}

-- a list is parted before one of its elements
record Within {X : Type 0} (xs before : List X) (x : X) : Type 0 where
  rest : List X
  is : xs ≡ before ++ x ∷ rest

-- a list with one element more is parted before that element
record AtEnd {X : Type 0} (xs before : List X) (last x : X) : Type 0 where
  same : before ≡ xs
  is : x ≡ last

-- a list with one element more is parted before that element, or before one from before
parted : {X : Type 0} (xs : List X) (last : X) (before after : List X) (x : X) → xs ++ last ∷ [] ≡ before ++ x ∷ after → AtEnd xs before last x ⊎ Within xs before x
parted [] last [] after x e = let same : x ≡ last = cc in inl (record { same = refl; is = same })
parted [] last (b ∷ before) after x e = absurd (none before (let rest : [] ≡ before ++ x ∷ after = cc in rest))
  where
    none : (ys : List _) → [] ≡ ys ++ x ∷ after → ⊥
    none [] h = cc
    none (y ∷ ys) h = cc
parted (y ∷ ys) last [] after x e = let same : y ≡ x = cc in inr (record { rest = ys; is = ap (λ z. z ∷ ys) same })
parted (y ∷ ys) last (b ∷ before) after x e =
    let first : b ≡ y = cc in
    let rest : ys ++ last ∷ [] ≡ before ++ x ∷ after = cc in
    elim (parted ys last before after x rest) [
      | inl end ↦ inl (record { same = ap (λ z. z ∷ before) first ∙ ap (λ zs. y ∷ zs) end.same; is = end.is })
      | inr earlier ↦ inr (record { rest = earlier.rest; is = ap (λ zs. y ∷ zs) earlier.is ∙ ap (λ z. z ∷ (before ++ x ∷ earlier.rest)) (sym first) })
    ]

-- each record may follow those before it
abbrev pub Follow : List ClientRec → Type 0
Follow records = (before after : List ClientRec) (rec : ClientRec) → records ≡ before ++ rec ∷ after → may_follow before rec ≡ true

pub follow-none : Follow []
follow-none [] after rec e = cc
follow-none (b ∷ before) after rec e = cc

-- one more record, which may follow all of them
pub follow-more : (records : List ClientRec) (last : ClientRec) → Follow records → may_follow records last ≡ true → Follow (records ++ last ∷ [])
follow-more records last follow may before after rec e = elim (parted records last before after rec e) [
  | inl end ↦ rw (end.same, end.is) may
  | inr earlier ↦ follow before earlier.rest rec earlier.is
]
