use Rattle.std.proofs.Common.{◌≡◌, ◌≤◌, ◌⊎◌, ◌++◌, ◌∷◌, [], inl, inr, cond, length, nat_eq, refl, arith}
use Rattle.std.proofs.lemmas.Bool.{cases_lt, eq-eqb, ne_eqb}
use Rattle.std.proofs.lemmas.Option.{slice_get_read}
use Rattle.aud_parts.specs.Plan.{pids_in}
use Rattle.aud_parts.proofs.PartPids.{pids_with-more, pids_with-all}
use Rattle.aud_parts.proofs.plan.Plan.pids_in.Goals.{then-index-part+in_ok-new+in_ok-push, else-index-part}
use Rattle.aud_parts.proofs.plan.Plan.pids_in.Goals as goal

pub loop-number-preserved : goal.loop-number-preserved
loop-number-preserved c =
    let plan = c.args.self.now in
    let n = c.loop-number.number in
    let pid = c.pid-pid.result.now in
    let own = c.index.result.now in
    let done = c.loop-number.pids.items in
    let is : c.if-index-part.pids.items ≡ cond (nat_eq own c.args.part) (done ++ pid ∷ []) done =
    elim c.if-index-part.branch [
      | then-index-part+in_ok-new+in_ok-push w ↦ grind (arith, w.pids-is, w.in_ok-push.ensures.items, w.in_ok-new.ensures, eq-eqb own c.args.part w.if-index-part.true)
      | else-index-part w ↦ grind (arith, w.pids-is, ne_eqb own c.args.part w.if-index-part.false)
    ] in
    pids_with-more c.args.part plan.sessions plan.parts.items n pid own done c.if-index-part.pids.items (pids_in plan c.args.part)
    c.pid-pid.ensures
    (slice_get_read plan.parts.items (length plan.parts.items) n own refl (omega (arith, plan.parts.ok.0)) c.index.ensures)
    is c.loop-number.invariant

pub returns : goal.returns
returns c =
    let plan = c.args.self.now in
    let n = c.loop-number.number in
    let past : (length plan.sessions ≤ n) ⊎ (length plan.parts.items ≤ n) =
    elim (cases_lt n (length plan.sessions)) as (λ _. (length plan.sessions ≤ n) ⊎ (length plan.parts.items ≤ n)) [
      | inl below ↦ inr (omega (arith, plan.parts.ok.0))
      | inr above ↦ inl above
    ] in
    pids_with-all c.args.part plan.sessions plan.parts.items n c.loop-number.pids.items (pids_in plan c.args.part) past c.loop-number.invariant
