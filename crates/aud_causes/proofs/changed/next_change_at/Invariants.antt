use Rattle.std.proofs.Common.{◌≡◌, drop}
use Rattle.std.specs.Option.{option_or}
use Rattle.aud_causes.specs.Changed.{next_change_at}
use Rattle.aud_causes.proofs.changed.next_change_at.Given as goal

-- what was found so far, or else what the records to come give
abbrev pub invariant-loop-number : goal.invariant-loop-number
invariant-loop-number l =
    option_or l.next (next_change_at l.logs l.node l.pid l.room l.position l.high (drop l.number-index l.numbers))
    ≡ next_change_at l.logs l.node l.pid l.room l.position l.high l.numbers
