use Rattle.std.proofs.Common.{◌≡◌, map, take}
use Rattle.aud_findings.specs.ShownTurn.{turn_seen}
use Rattle.aud_findings.specs.ChainTurns.{turns_shown}
use Rattle.aud_findings.proofs.timeline.chain.turns_of_chain.Given as goal

abbrev pub invariant-loop-turn : goal.invariant-loop-turn
invariant-loop-turn l = map turn_seen l.shown.items ≡ turns_shown l.sheet.recording.now l.sheet.lines.now (take l.turn-index l.turns)
