use Rattle.std.proofs.Common.{◌≡◌, ◌++◌, cond, length, refl, sym, ◌∙◌, arith}
use Rattle.std.proofs.lemmas.Option.{slice_get_read}
use Rattle.aud_parts.specs.Plan.{came_in, has_client}
use Rattle.aud_parts.proofs.PartPids.{came_with-more, came_with-all}
use Rattle.aud_parts.proofs.plan.Plan.came_in.Goals.{then-has_client+in_ok-extend_from_slice, else-has_client}
use Rattle.aud_parts.proofs.plan.Plan.came_in.Goals as goal

pub loop-number-preserved : goal.loop-number-preserved
loop-number-preserved c =
    let plan = c.args.self.now in
    let told = c.args.clients.now in
    let n = c.loop-number.number in
    let client = c.index-clients-number.result in
    let done = c.loop-number.came.items in
    let is : c.if-has_client.came.items ≡ cond (has_client plan c.args.part n) (done ++ client.facts.came.items) done =
    elim c.if-has_client.branch [
      | then-has_client+in_ok-extend_from_slice w ↦ grind (arith, w.came-is, w.in_ok-extend_from_slice.ensures.items, w.as_slice.ensures.value, sym c.has_client.ensures ∙ w.if-has_client.true)
      | else-has_client w ↦ grind (arith, w.came-is, sym c.has_client.ensures ∙ w.if-has_client.false)
    ] in
    came_with-more c.args.part told plan.clients.items n client done c.if-has_client.came.items (came_in plan told c.args.part)
    (slice_get_read told (length told) n client refl c.loop-number-test.true c.index-clients-number.is)
    is c.loop-number.invariant

pub returns : goal.returns
returns c =
    came_with-all c.args.part c.args.clients.now c.args.self.now.clients.items c.loop-number.number c.loop-number.came.items (came_in c.args.self.now c.args.clients.now c.args.part)
    c.loop-number-test.false c.loop-number.invariant
