use Rattle.std.proofs.Common.{take}
use Rattle.aud_base.specs.Lists.{numbers_from}
use Rattle.aud_causes.specs.Turns.{ended_by, turn_count}
use Rattle.aud_causes.proofs.TurnLemmas.{AreBegins, AreNoted, breaks}
use Rattle.aud_causes.proofs.turns.turns_of.Given as goal

-- what the records so far say
abbrev pub invariant-loop-number : goal.invariant-loop-number
invariant-loop-number l =
    AreBegins (turn_count 0 l.marks) (take l.number l.marks) l.begins.items
    × AreNoted breaks (turn_count 0 l.marks) (take l.number l.marks) l.broken.items
    × AreNoted (ended_by l.marks) (turn_count 0 l.marks) (numbers_from 0 l.number) l.ended.items
