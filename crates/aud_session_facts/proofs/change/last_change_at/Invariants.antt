use Rattle.std.proofs.Common.{◌≡◌, drop}
use Rattle.std.specs.Option.{option_or}
use Rattle.aud_session_facts.specs.Changes.{last_change_at}
use Rattle.aud_session_facts.proofs.change.last_change_at.Given as goal

-- the last of the records to come, or else the last so far
abbrev pub invariant-loop-number : goal.invariant-loop-number
invariant-loop-number l =
    option_or (last_change_at l.logs l.pid l.room l.node (drop l.number-index l.numbers)) l.last ≡ last_change_at l.logs l.pid l.room l.node l.numbers
