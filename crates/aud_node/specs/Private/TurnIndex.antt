-- What the index of turns answers.
use Rattle.std.specs.Prelude.{◌≡◌, ℕ, List, Option, Some, None, unwrap_or, nat_eq, if◌then◌else◌}
use Rattle.std.specs.Option.{option_map, option_and_then}
use Rattle.std.specs.Ordering.{nat_cmp}
use Rattle.std.specs.Str.{bytes_eq}
use Rattle.std.specs.BTreeMap as tree
use Rattle.std.specs.HashMap as hash
use Rattle.aud_tap.specs.declared.records.NodeRec.{NodeRec}
use Rattle.aud_node.specs.Stream.{Text}
use Rattle.aud_node.specs.TurnRecords.{turn_range}
use Rattle.aud_node.specs.declared.session_turns.SessionTurns.{SessionTurns}
use Rattle.aud_node.specs.declared.turns.Turns.{Turns}
use Rattle.aud_node.specs.declared.turns.TurnRange.{TurnRange}

-- the records of the turn that was seen first, if this is its number; else these
abbrev pub first_or : Option (ℕ × TurnRange) → ℕ → Option TurnRange → Option TurnRange
first_or None k others = others
first_or (Some first) k others = if nat_eq first.0 k then Some first.1 else others

-- the records that are kept for a turn of the session
abbrev pub span_in : SessionTurns → ℕ → Option TurnRange
span_in session k = first_or session.first k (tree.get nat_cmp session.others k)

-- what is kept for the pid
abbrev pub kept_session : Turns → Text → Option SessionTurns
kept_session turns pid = hash.get_by (λ key. bytes_eq pid key.now) turns.sessions

-- the records that are kept for the pid's turn
abbrev pub kept_range : Turns → Text → ℕ → Option TurnRange
kept_range turns pid k = option_and_then (λ session. span_in session k) (kept_session turns pid)

-- where a turn of the pid ends that is going on before the records seen so far
abbrev pub kept_end : Turns → Text → ℕ → ℕ
kept_end turns pid len = unwrap_or (option_and_then (λ session. session.end) (kept_session turns pid)) len

-- the numbers of these records
abbrev pub range_numbers : TurnRange → ℕ × ℕ
range_numbers span = (span.from, span.to)

-- the turns are those of the log
abbrev pub HoldsTurns : List NodeRec → Turns → Type 0
HoldsTurns log turns = (pid : Text) (k : ℕ) → option_map range_numbers (kept_range turns pid k) ≡ turn_range log pid k
