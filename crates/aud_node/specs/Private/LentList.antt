-- A list that may be borrowed.
use Rattle.std.specs.Prelude.{List, [], Option}
use Rattle.std.specs.Borrow.{Bor}
use Rattle.std.specs.Option.{option_map_or}

-- the elements of the list that is borrowed, if one is
abbrev pub lent_list : {X : Type 0} → Option (Bor (List X)) → List X
lent_list list = option_map_or (λ elements. elements.now) list []
