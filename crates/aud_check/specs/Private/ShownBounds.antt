-- The positions that turns show to begin and to end with.
use Rattle.std.specs.Prelude.{ℕ, List, [], ◌∷◌, max}
use Rattle.aud_cert.specs.Certificate.{TurnSeen}

-- the position that turns show to start from
abbrev pub first_shown_low : List TurnSeen → ℕ
first_shown_low [] = 0
first_shown_low (t ∷ later) = t.low

-- the greatest position that turns show
abbrev pub greatest_shown_high : List TurnSeen → ℕ
greatest_shown_high [] = 0
greatest_shown_high (t ∷ later) = max t.high (greatest_shown_high later)
