use Rattle.std.proofs.Common.{◌≡◌, ◌++◌, map, take}
use Rattle.aud_rooms.specs.Private.Times.{span_of}
use Rattle.aud_rooms.proofs.holding.Holding.push_spans.Given as goal

abbrev pub invariant-loop-interval : goal.invariant-loop-interval
invariant-loop-interval l = l.spans.items ≡ l.initial.spans.items ++ map (span_of l.room) (take l.interval-index l.interval-items)
