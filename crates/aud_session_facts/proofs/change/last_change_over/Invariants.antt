use Rattle.std.proofs.Common.{◌≡◌, drop, map}
use Rattle.std.specs.Option.{option_or}
use Rattle.aud_cert.specs.Certificate.{turn_at}
use Rattle.aud_session_facts.specs.Changes.{last_change_over}
use Rattle.aud_session_facts.proofs.change.last_change_over.Given as goal

-- the last of the turns to come, or else the last so far
abbrev pub invariant-loop-turn : goal.invariant-loop-turn
invariant-loop-turn l =
    option_or (last_change_over l.logs l.pid l.room (map (turn_at l.logs) (drop l.turn-index l.turns))) l.last ≡ last_change_over l.logs l.pid l.room (map (turn_at l.logs) l.turns)
