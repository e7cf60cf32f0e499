-- How a cause stands, whose test holds.
use Rattle.std.specs.Prelude.{ℕ, Bool, true, false, List, codes}
use Rattle.aud_explanation.specs.declared.cause.CauseState.{CauseState}
use Rattle.aud_explanation.specs.declared.cause.CauseState.TheVariants.{Certain, Holds, Fits}

-- in a word
abbrev pub state_word : CauseState → List ℕ
state_word Certain = codes "certain"
state_word Holds = codes "holds"
state_word Fits = codes "fits"

-- the records leave no other of the known causes
abbrev pub is_certain : CauseState → Bool
is_certain Certain = true
is_certain Holds = false
is_certain Fits = false
