use Rattle.std.proofs.Common.{◌≡◌, ◌++◌, take, map, string_bytes}
use Rattle.aud_explanation.specs.EventText.{event_words, pieces, pieces_end}
use Rattle.aud_explanation.proofs.text.event.push_all.Given as goal

-- the row so far, and the column that it has come to
abbrev pub invariant-loop-event : goal.invariant-loop-event
invariant-loop-event l = (string_bytes l.out ≡ string_bytes l.fn.out ++ pieces l.fn.column (map event_words (take l.event-index l.events))) × (l.column ≡ pieces_end l.fn.column (map event_words (take l.event-index l.events)))
