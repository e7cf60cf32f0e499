use Rattle.std.proofs.Common.{◌≡◌, ◌∙◌, ap, map}
use Rattle.std.proofs.lemmas.Result.{IfOk-weaker}
use Rattle.aud_node.specs.Cluster.{Cluster}
use Rattle.aud_session_facts.specs.Marks.{turn_marks}
use Rattle.aud_causes.specs.Chain.{causes_of_marks, causes_of_turns}
use Rattle.aud_causes.specs.Logs.{recoveries}
use Rattle.aud_causes.specs.Turns.{begins_of, breaks_of, ends_of}
use Rattle.aud_causes.proofs.turns.chain_causes.Goals as goal

pub returns : goal.returns
returns c =
    let here = c.args.recording.now in
    let pid = c.args.pid.now in
    let logs_are = c.logs-logs.ensures in
    let marks_are = c.in_ok-marks.ensures ∙ ap (λ (k : Cluster). turn_marks k pid) logs_are in
    let read_are = c.deref-2.ensures.value ∙ marks_are in
    let given_are = c.deref-3.ensures.value ∙ marks_are in
    let turns = c.in_ok-turns.turns in
    let begins_are = c.in_ok-turns.ensures.begins ∙ ap begins_of read_are in
    let broken_are = c.in_ok-turns.ensures.broken ∙ ap breaks_of read_are in
    let ended_are = c.in_ok-turns.ensures.ended ∙ ap ends_of read_are in
    let stays_are = ap (λ all. map (λ stay. stay.now) all) c.deref.ensures.value ∙ c.in_ok-stays.ensures in
    let came_are = c.deref-4.ensures.value ∙ c.in_ok-came.ensures ∙ ap recoveries stays_are in
    IfOk-weaker c.causes_of_marks.result
    (λ found. found.items
    ≡ causes_of_marks c.logs-logs.result.now pid c.deref-3.result.now turns.begins.items turns.broken.items turns.ended.items c.deref-4.result.now)
    (λ found. found.items ≡ causes_of_turns here c.args.client pid)
    (λ found is. is ∙ (λ i. causes_of_marks (logs_are i) pid (given_are i) (begins_are i) (broken_are i) (ended_are i) (came_are i)))
    c.causes_of_marks.ensures
