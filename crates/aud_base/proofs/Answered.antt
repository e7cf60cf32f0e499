-- What the calls at the items of a list gave, where all of them answered.
use Rattle.std.proofs.Common.{◌≡◌, List, [], ◌∷◌, map, refl, subst, Bor}
use Rattle.std.specs.Prelude.{Result, Ok, Err, Contains, IfOk, MatchResult}
use Rattle.std.specs.Fn.{FnReturnsAt}
use Rattle.std.specs.List.{AllZip}
use Rattle.std.proofs.lemmas.Fn.{says_at}
use denote.Param.Members.{Shared}

-- the calls at references to the items, as calls at the items
pub at_items : {F T U E : Type 0} (g : Shared F (Bor T × Unit {0}) (Result U E)) (f : F) (zs : List (Bor T)) (ys : List U)
    → AllZip (λ (z : Bor T) r. g.post f (z, tt) r) zs (map Ok ys) → AllZip (λ x y. FnReturnsAt g f x (Ok y)) (map (λ (z : Bor T). z.now) zs) ys
at_items g f [] [] h = tt
at_items g f [] (y ∷ ys) h = absurd h
at_items g f (z ∷ zs) [] h = absurd h
at_items g f (z ∷ zs) (y ∷ ys) h = (says_at g h.0 refl, at_items g f zs ys h.1)

-- what a chain over the references to the items of a list collects
pub collected : {F T U E V : Type 0} (g : Shared F (Bor T × Unit {0}) (Result U E)) (f : F) (items : V → List U) (xs : List T) (zs : List (Bor T))
    (rs : List (Result U E)) (r : Result V E) → map (λ (z : Bor T). z.now) zs ≡ xs → AllZip (λ (z : Bor T) y. g.post f (z, tt) y) zs rs
    → MatchResult r (λ v. (ys : List U) × (rs ≡ map Ok ys) × (items v ≡ ys)) (λ e. Contains rs (Err e))
    → IfOk r (λ v. AllZip (λ x y. FnReturnsAt g f x (Ok y)) xs (items v))
collected g f items xs zs rs (Err e) shown calls h = tt
collected g f items xs zs rs (Ok v) shown calls h =
    let each = at_items g f zs h.0 (subst (AllZip (λ (z : Bor _) y. g.post f (z, tt) y) zs) h.1 calls) in
    rw (← shown, h.2) each
