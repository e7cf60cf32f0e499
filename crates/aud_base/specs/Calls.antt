-- Calls of a function at the items of a list.
use Rattle.std.specs.Prelude.{◌≡◌}
use denote.Ref.{Bor}
use denote.Param.Members.{Shared}

-- f may be called at a reference to x
abbrev pub TakesAt : {F T R : Type 0} → Shared F (Bor T × Unit {0}) R → F → T → Type 0
TakesAt {F} {T} g f x = (p : Bor T) → p.now ≡ x → g.pre f (p, tt)
