use Rattle.std.proofs.Common.{◌≡◌, drop}
use Rattle.std.specs.Option.{option_or}
use Rattle.aud_causes.specs.Changed.{next_change_over}
use Rattle.aud_causes.proofs.changed.next_change.Given as goal

-- what was found so far, or else what the turns to come give
abbrev pub invariant-loop-turn : goal.invariant-loop-turn
invariant-loop-turn l =
    option_or l.next (next_change_over l.logs l.pid l.room l.position l.high (drop l.turn-index l.turns))
    ≡ next_change_over l.logs l.pid l.room l.position 0 l.turns
