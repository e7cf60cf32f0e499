-- The records of a session that no node opened.
use Rattle.std.proofs.Common.{◌≡◌, ◌++◌, Bool, true, false, List, None, map, option_map, option_to_list, append-nil}
use Rattle.std.specs.Prelude.{if◌then◌else◌}
use Rattle.std.specs.List.{list_any}
use Rattle.aud_session_facts.specs.declared.marks.TurnMark.{TurnMark}
use Rattle.aud_session_facts.specs.declared.misfit.Misfit.TheVariants.{NeverOpened}
use Rattle.aud_session_facts.specs.declared.place.RecordPlace.{RecordPlace}
use Rattle.aud_session_facts.specs.declared.shown.node_records.NodeRecord.{NodeRecord}
use Rattle.aud_rows.specs.declared.row.Role.TheVariants as role
use Rattle.aud_findings.specs.ChainRecords.{chain_records, is_fault_at, turn_record}

-- each begins or ends a turn, and no other one is at fault
pub never_opened : (marks : List TurnMark) → chain_records NeverOpened marks ≡ map turn_record marks
never_opened marks = either (list_any (is_fault_at NeverOpened) marks)
  where
    fault : RecordPlace → NodeRecord
    fault place = record { place = place; role = role.Fault }

    either : (b : Bool) → map turn_record marks ++ option_to_list (option_map fault (if b then None else None)) ≡ map turn_record marks
    either true = append-nil (map turn_record marks)
    either false = append-nil (map turn_record marks)
