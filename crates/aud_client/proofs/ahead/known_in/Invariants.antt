use Rattle.std.proofs.Common.{List, Option, ◌++◌, drop}
use Rattle.std.specs.List.{AllZip}
use Rattle.aud_node.specs.declared.known.KnownEvent.{KnownEvent}
use Rattle.aud_client.specs.Private.Ahead.{Carries}
use Rattle.aud_client.proofs.ahead.known_in.Given as goal

abbrev pub invariant-loop-i : goal.invariant-loop-i
invariant-loop-i l = (rest : List (Option KnownEvent)) → AllZip (Carries l.stream) (drop l.i l.recs) rest → AllZip (Carries l.stream) l.recs (l.known.items ++ rest)
