use Rattle.std.proofs.Common.{◌≡◌, ◌++◌, ℕ, Bool, List, filter, length, ap, ◌∙◌, arith}
use Rattle.std.proofs.lemmas.Grind.{common_steps}
use Rattle.std.proofs.lemmas.List.{nil_from_length}
use Rattle.std.proofs.lemmas.Result.{IfOk-weaker}
use Rattle.aud_node.specs.Stream.{positions_after}
use Rattle.aud_rooms.specs.Spans.{RoomSpan}
use Rattle.aud_rooms.specs.Private.Candidates.{is_by_some}
use Rattle.aud_rooms.proofs.Candidate.{of_none, of_both}
use Rattle.aud_rooms.proofs.candidates.+of_spans.Goals as goal

pub returns-in-empty : goal.returns-in-empty
returns-in-empty t c =
    let short = c.in-empty.len_below in
    grind (arith, of_none c.args.stream.now c.args.nsp.now c.args.within.after c.args.within.last c.args.by, nil_from_length c.args.spans.now (omega arith))

pub returns-in_ok-other-in_default : goal.returns-in_ok-other-in_default
returns-in_ok-other-in_default t c =
    let stream = c.args.stream.now in
    let test : List RoomSpan → ℕ → Bool = λ spans. is_by_some c.args.by spans stream c.args.nsp.now c.args.within.after c.args.within.last in
    let front = c.split_at.result.0.now in
    let back = c.split_at.result.1.now in
    let parts : front ++ back ≡ c.args.spans.now = grind (arith, common_steps) in
    IfOk-weaker c.merged.result _ _
    (λ all is.
    is (test front) (test back) 1 (length stream) c.in_ok-one-in_default.ensures c.in_ok-other-in_default.ensures
    ∙ of_both stream c.args.nsp.now c.args.within.after c.args.within.last c.args.by front back
    ∙ ap (λ spans. filter (test spans) (positions_after 0 (length stream))) parts)
    c.merged.ensures
