-- Of an event that came with another content than its entry's, the frame's row is there.
use Rattle.std.proofs.Common.{◌≡◌, true, List, [], ap, ◌∙◌, arith}
use Rattle.std.proofs.lemmas.Option.{slice_get_within}
use Rattle.aud_node.specs.Cluster.{Cluster}
use Rattle.aud_node.specs.Stream.{Text}
use Rattle.aud_check.specs.Frames.{frames_in}
use Rattle.aud_input.specs.TapLines.{TapLines}
use Rattle.aud_verdict.specs.Session.{own_stays}
use Rattle.aud_rows.specs.declared.row.Role.TheVariants.{Fault}
use Rattle.aud_rows.specs.Seen.{RowSeen}
use Rattle.aud_session_facts.specs.SessionRows.{Session, entry_row, got_row}
use Rattle.aud_session_facts.specs.ShowsAltered.{ShowsAltered}
use Rattle.aud_laws.specs.FaultRows.{KnowsEachRecord, has_fault_row}
use Rattle.aud_laws.proofs.FaultRow.Frames.{count_is, frame_there}
use Rattle.aud_laws.proofs.FaultRow.Rows.{marked_after, marked_and}

pub altered_marked : (c : Cluster) (lines : List TapLines) → KnowsEachRecord c.taps lines → (pid : Text) (rows : List RowSeen) → ShowsAltered c lines pid rows
    → has_fault_row rows ≡ true
altered_marked c lines known pid rows shows =
    let s : Session = record { c = c; lines = lines; turns = shows.session.turns; client = shows.session.client; numbers = shows.numbers } in
    let own = own_stays c shows.session in
    let within = slice_get_within (frames_in own) shows.altered.frame shows.is_altered.seen shows.is_altered.is_there in
    let there = frame_there c lines known pid shows.session shows.is_session shows.numbers shows.are_its_stays shows.altered.frame (omega (arith, within, count_is own)) in
    ap has_fault_row shows.are_its_rows ∙ marked_after (entry_row s shows.altered.position) _ (marked_and (got_row s shows.altered.frame Fault) [] there)
