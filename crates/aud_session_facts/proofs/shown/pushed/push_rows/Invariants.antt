use Rattle.std.proofs.Common.{◌≡◌, ◌++◌, take}
use Rattle.aud_session_facts.proofs.shown.pushed.push_rows.Given as goal

-- the rows so far are added
abbrev pub invariant-loop-row : goal.invariant-loop-row
invariant-loop-row l = l.rows.items ≡ l.initial.rows.items ++ take l.row-index l.more
