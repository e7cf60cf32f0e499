use Rattle.std.proofs.Common.{◌≡◌, ◌++◌, drop}
use Rattle.std.specs.List.{filter_map}
use Rattle.aud_session_facts.specs.Marks.{mark_at}
use Rattle.aud_session_facts.proofs.marks.add_marks.Given as goal

abbrev pub invariant-loop-number : goal.invariant-loop-number
invariant-loop-number l =
    l.marks.items ++ filter_map (mark_at l.logs l.pid l.node) (drop l.number-index l.number-items) ≡ l.initial.marks.items ++ filter_map (mark_at l.logs l.pid l.node) l.number-items
