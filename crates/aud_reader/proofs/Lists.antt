-- Lists of fields, as far as they are read.
use Rattle.std.proofs.Common.{◌≡◌, ℕ, suc, ◌+◌, ◌<◌, List, [], ◌∷◌, ◌++◌, length, drop, get_or, Option, Some, None, Ok, Err, option_map, refl, ap, append_assoc, drop-cons, add-one, Bor}
use Rattle.serde_json.specs.Data.{Data}
use Rattle.aud_json.specs.View.{text_view, list_view}
use Rattle.aud_reader.specs.declared.fault.InputCode.{InputCode}
use Rattle.aud_reader.specs.declared.fault.InputCode.TheVariants.{Field}
use Rattle.aud_reader.specs.declared.fault.LineFault.{LineFault}
use Rattle.aud_reader.specs.declared.fault.LineFault.TheVariants as fault
use Rattle.aud_reader.specs.Steps.{Fails}
use Rattle.aud_reader.specs.Fields.{all_items}
use Rattle.aud_base.specs.Steps.{need}

-- the texts of a list, with none for an item that is no text
abbrev pub ListTexts : Type 0
ListTexts = List (Option (Bor (List ℕ)))

-- what was read so far, and then what is left
abbrev pub with_front : {A : Type 0} → List A → Option (List A) → Option (List A)
with_front front rest = option_map (λ xs. front ++ xs) rest

-- an item put to those read is the first of those left
with_front-item : {A : Type 0} (front : List A) (x : A) (rest : Option (List A)) → with_front (front ++ x ∷ []) rest ≡ with_front front (option_map (λ xs. x ∷ xs) rest)
with_front-item front x None = refl
with_front-item front x (Some xs) = ap Some (append_assoc front (x ∷ []) xs)

-- one more item that is something
pub each-some : {A : Type 0} (as_item : Data → Option A) (os : ListTexts) (i : ℕ) (o : Option (Bor (List ℕ))) (x : A) (front : List A) → i < length os → as_item (text_view (get_or os i o)) ≡ Some x
    → with_front (front ++ x ∷ []) (all_items as_item (list_view (drop (i + 1) os))) ≡ with_front front (all_items as_item (list_view (drop i os)))
each-some as_item os i o x front h some = rw (add-one, drop-cons os i o h, some) (with_front-item front x (all_items as_item (list_view (drop (suc i) os))))

-- an item that is nothing leaves nothing of the list
pub each-none : {A : Type 0} (as_item : Data → Option A) (os : ListTexts) (i : ℕ) (o : Option (Bor (List ℕ))) (front : List A) (all : Option (List A)) (e : LineFault) → i < length os
    → with_front front (all_items as_item (list_view (drop i os))) ≡ all → Fails e (need Field (as_item (text_view (get_or os i o)))) → Fails e (need Field all)
each-none {A} as_item os i o front all fault.Memory h begun fails = tt
each-none {A} as_item os i o front all (fault.Code code) h begun fails = go (as_item (text_view (get_or os i o))) refl fails
  where
    go : (found : Option A) → as_item (text_view (get_or os i o)) ≡ found → need Field found ≡ Err code → need Field all ≡ Err code
    go (Some x) some e = cc
    go None none e = let same : Field ≡ code = cc in rw (← begun, drop-cons os i o h, none) (ap Err same)

-- what was needed was there
pub need-ok : {A : Type 0} (code : InputCode) (x : A) (o : Option A) → need code o ≡ Ok x → o ≡ Some x
need-ok code x None h = cc
need-ok code x (Some y) h = cc
