use Rattle.std.proofs.Common.{◌&&◌, filter, length, sym, ap, subst, ◌∙◌}
use Rattle.std.specs.List.Sorted.{IsNonDecreasing}
use Rattle.std.proofs.lemmas.Result.{IfOk-weaker}
use Rattle.aud_node.specs.Stream.{entry}
use Rattle.aud_node.specs.Addressees.{is_to_all}
use Rattle.aud_rooms.specs.Private.Candidates.{is_past_upto, is_by_some}
use Rattle.aud_rooms.specs.declared.candidates.By.TheVariants.{Named}
use Rattle.aud_rooms.proofs.Ascending.{non_decreasing}
use Rattle.aud_rooms.proofs.Candidate.{to_all, to_any}
use Rattle.aud_rooms.proofs.candidates.candidates_of.Goals as goal

pub past_upto-everyone-requires : goal.past_upto-everyone-requires
past_upto-everyone-requires c =
    let stream = c.args.stream.now in
    subst IsNonDecreasing (sym c.to_all.ensures) (non_decreasing (λ p. is_to_all (entry stream p) c.args.nsp.now) 1 (length stream))

pub returns : goal.returns
returns c =
    let stream = c.args.stream.now in
    let nsp = c.args.nsp.now in
    let birth = c.args.within.after in
    let high = c.args.within.last in
    let everyone = c.past_upto-everyone.ensures ∙ ap (filter (is_past_upto birth high)) c.to_all.ensures ∙ to_all stream nsp birth high in
    IfOk-weaker c.merged.result _ _
    (λ all is.
    is (λ p. is_past_upto birth high p && is_to_all (entry stream p) nsp) (is_by_some Named c.args.spans.now stream nsp birth high) 1 (length stream) everyone c.in_ok-some.ensures
    ∙ to_any stream nsp birth high c.args.spans.now)
    c.merged.ensures
