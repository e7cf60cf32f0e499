use Rattle.std.proofs.Common.{◌≡◌, map, flat_map, option_to_list}
use Rattle.aud_node.specs.Lists.{numbers_from}
use Rattle.aud_findings.specs.ShownTurn.{turn_seen}
use Rattle.aud_findings.specs.MarkedTurns.{greatest_turn, mark_shown}
use Rattle.aud_findings.proofs.timeline.marks.turns_of_marks.Given as goal

abbrev pub invariant-loop-number : goal.invariant-loop-number
invariant-loop-number l =
    map turn_seen l.shown.items
    ≡ flat_map (λ number. option_to_list (mark_shown l.sheet.recording.now l.sheet.lines.now (greatest_turn l.marks) l.marks number)) (numbers_from 0 l.number)
