-- A list kept in pages.
use Rattle.std.specs.Prelude.{◌≡◌, List, ◌++◌, length}
use Rattle.std.specs.List.{All, flat_map}
use Rattle.std.specs.Global.{Vec}

-- the elements of the full pages, and then those of the last
abbrev pub elements : {X : Type 0} → List (Vec X) → List X → List X
elements full last = flat_map (λ page. page.items) full ++ last

-- each of these pages is full
abbrev pub are_full : {X : Type 0} → List (Vec X) → Type 0
are_full {X} full = All (λ (page : Vec X). length page.items ≡ 4096) full
