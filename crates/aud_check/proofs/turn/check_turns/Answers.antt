use Rattle.std.proofs.Common.{◌≡◌, ◌<◌, ◌≤◌, ◌+◌, ◌⊎◌, inl, inr, suc, drop, slice_get, length, refl, sym, ap, subst, ◌∙◌, arith}
use Rattle.std.proofs.lemmas.Bool.{cases_lt}
use Rattle.std.proofs.lemmas.Result.{err_from_is_err_and}
use Rattle.std.proofs.lemmas.Option.{same_Some, slice_get_read, slice_get_within}
use Rattle.aud_check.specs.TurnRefusals.{IsTurnAccepted}
use Rattle.aud_check.proofs.turn.check_turns.Goals as goal

pub loop-number-preserved : goal.loop-number-preserved
loop-number-preserved c k t below at = go (cases_lt k c.loop-number.number)
  where
    go : (k < c.loop-number.number) ⊎ (c.loop-number.number ≤ k) → IsTurnAccepted c.args.logs.now c.args.pid.now k t (drop (suc k) c.args.turns.now)
    go (inl less) = c.loop-number.invariant k t less at
    go (inr more) =
        let same : c.loop-number.number ≡ k = omega arith in
        let here = slice_get_read c.args.turns.now (length c.args.turns.now) c.loop-number.number c.index-turns-number.result refl c.loop-number-test.true c.index-turns-number.is in
        let turn : c.index-turns-number.result ≡ t = same_Some c.index-turns-number.result t (sym here ∙ ap (slice_get c.args.turns.now) same ∙ at) in
        let next : c.loop-number.number + 1 ≡ suc c.loop-number.number = omega arith in
        let accepted = subst (λ later. IsTurnAccepted c.args.logs.now c.args.pid.now c.loop-number.number c.index-turns-number.result later) (c.split_at.ensures.back ∙ ap (λ n. drop n c.args.turns.now) next) (c.in_ok-check_turn.ensures.accepted) in
        subst (λ n. IsTurnAccepted c.args.logs.now c.args.pid.now n t (drop (suc n) c.args.turns.now)) same
        (subst (λ s. IsTurnAccepted c.args.logs.now c.args.pid.now c.loop-number.number s (drop (suc c.loop-number.number) c.args.turns.now)) turn accepted)

pub returns-clause-accepted : goal.returns-clause-accepted
returns-clause-accepted c k t at =
    let within = slice_get_within c.args.turns.now k t at in
    let end = c.loop-number-test.false in
    c.loop-number.invariant k t (omega arith) at

pub returns-in_err-check_turn : goal.returns-in_err-check_turn
returns-in_err-check_turn c =
    let p = err_from_is_err_and c.from_residual.result c.from_residual.ensures.1 in
    let turns = c.args.turns.now in
    let next : c.loop-number.number + 1 ≡ suc c.loop-number.number = omega arith in
    let later = c.split_at.ensures.back ∙ ap (λ n. drop n turns) next in
    rw p.1 (record {
      accepted = tt;
      refused = rw p.2 (record {
        number = c.loop-number.number;
        turn = c.index-turns-number.result;
        stands = slice_get_read turns (length turns) c.loop-number.number c.index-turns-number.result refl c.loop-number-test.true c.index-turns-number.is;
        is_first = rw later at c.in_err-check_turn.ensures.refused;
        accepted = c.loop-number.invariant;
      });
    })
