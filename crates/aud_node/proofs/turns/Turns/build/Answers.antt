use Rattle.std.proofs.Common.{◌≡◌, ℕ, arith, subst}
use Rattle.aud_node.proofs.ListLemmas.{drop-read}
use Rattle.aud_node.proofs.TurnLemmas.{step, HoldsFrom, HoldsFrom-first}
use Rattle.aud_node.proofs.turns.Turns.build.Goals as goal

pub loop-number-preserved : goal.loop-number-preserved
loop-number-preserved c =
    step c.args.recs.now c.len.result _ c.loop-number.number c.index.result.now c.loop-number.turns c.put.new.self c.len.ensures (omega arith)
    (drop-read c.args.recs.now c.loop-number.number c.index.result.now (omega arith) (omega arith) c.index.ensures)
    c.loop-number.invariant c.in_ok-put.ensures.spans c.in_ok-put.ensures.ends

pub returns : goal.returns
returns c =
    let none : c.loop-number.number ≡ 0 = omega arith in
    let P : ℕ → Type 0 = λ n. HoldsFrom c.args.recs.now n c.loop-number.turns in
    HoldsFrom-first c.args.recs.now c.loop-number.turns (subst P none c.loop-number.invariant)
