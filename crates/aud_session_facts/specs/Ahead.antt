-- Where the node of a turn was behind the turns before it.
use Rattle.std.specs.Prelude.{ℕ, List, Option, None, if◌then◌else◌, nat_le, nat_lt, find, reverse, slice_get, take}
use Rattle.std.specs.Option.{option_and_then}
use Rattle.aud_cert.specs.Certificate.{TurnSeen}

-- the last of the turns that reached this position
abbrev pub last_reached : ℕ → List TurnSeen → Option TurnSeen
last_reached p turns = find (λ (t : TurnSeen). nat_le p t.high) (reverse turns)

-- where the turn with this number began before the position, the last turn in front of it that had reached that
abbrev pub ahead_of : ℕ → List TurnSeen → ℕ → Option TurnSeen
ahead_of p turns number =
    option_and_then (λ (t : TurnSeen). if nat_lt t.low p then last_reached p (take number turns) else None) (slice_get turns number)
