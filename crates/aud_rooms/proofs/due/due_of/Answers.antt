use Rattle.std.proofs.Common.{length, ◌∙◌}
use Rattle.std.proofs.lemmas.Result.{IfOk-weaker}
use Rattle.aud_rooms.specs.Private.Candidates.{is_by_some, is_candidate}
use Rattle.aud_rooms.specs.declared.candidates.By.TheVariants.{Excepted}
use Rattle.aud_rooms.proofs.Candidate.{candidates_due}
use Rattle.aud_rooms.proofs.due.due_of.Goals as goal

pub returns : goal.returns
returns c =
    let stream = c.args.stream.now in
    let nsp = c.args.nsp.now in
    let spans = c.args.spans.now in
    let birth = c.args.birth in
    let high = c.args.high in
    IfOk-weaker c.removed.result _ _
    (λ due is.
    is (is_candidate spans stream nsp birth high) (is_by_some Excepted spans stream nsp birth high) 1 (length stream) c.in_ok-found.ensures (c.as_slice.ensures.value ∙ c.in_ok-excepted.ensures)
    ∙ candidates_due spans stream nsp birth high)
    c.removed.ensures
