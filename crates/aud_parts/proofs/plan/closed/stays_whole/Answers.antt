use Rattle.std.proofs.Common.{◌≡◌, Some, ap, sym, true, arith, ◌∙◌}
use Rattle.std.specs.List.{list_all}
use Rattle.std.proofs.lemmas.Bool.{true≢false}
use Rattle.std.proofs.lemmas.List.{drop_all}
use Rattle.aud_node.specs.Cluster.{node_recs}
use Rattle.aud_parts.specs.LeftOut.{is_started, keeps_record}
use Rattle.aud_parts.specs.Plan.{is_in}
use Rattle.aud_parts.proofs.plan.closed.stays_whole.Goals as goal

pub returns-then-is_started : goal.returns-then-is_started
returns-then-is_started c = λ e begun.
    absurd (true≢false (sym c.if-is_started.true ∙ c.is_started.ensures ∙ ap (λ r. is_started (node_recs (Some r))) (sym c.in-Node.is) ∙ begun))

pub returns : goal.returns
returns c = λ e begun.
    let keeps = keeps_record (is_in c.args.plan.now c.first_part-part.result) in
    let all : list_all keeps c.in-Node.recs ≡ true = sym c.loop-number.invariant ∙ ap (list_all keeps) (drop_all c.loop-number.number c.in-Node.recs (omega (arith, c.loop-number-test.false))) in
    rw c.in-Node.is (c.first_part-part.result, all)
