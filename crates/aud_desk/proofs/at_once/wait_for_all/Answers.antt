use Rattle.std.proofs.Common.{◌≡◌, All, arith, subst, sym, ap}
use Rattle.std.proofs.lemmas.List.Elements.{All-push}
use Rattle.aud_desk.specs.declared.worker.Worker.{Worker}
use Rattle.aud_desk.specs.declared.tickets.Tickets.{Tickets}
use Rattle.aud_desk.specs.Workers.{IsWorkOf}
use Rattle.aud_desk.proofs.Lists.{all-init, all-last}
use Rattle.aud_desk.proofs.at_once.wait_for_all.Goals as goal

pub loop-handle-preserved-in-Ok-push : goal.loop-handle-preserved-in-Ok-push
loop-handle-preserved-in-Ok-push g c =
    let worker : Worker = c.in-Ok.worker in record {
      count = λ going. omega (arith, c.loop-handle.invariant.count going, c.in-Some.ensures.len, c.in-Ok-push.ensures.len);
      work = λ t task jobs.
          let was = subst (All (λ h. (h.promise.tickets.now ≡ t) × (h.promise.task.now ≡ task))) c.in-Some.ensures.items (c.loop-handle.invariant.work t task jobs).0 in
          let is = all-last (λ h. (h.promise.tickets.now ≡ t) × (h.promise.task.now ≡ task)) _ _ was in
          let here = subst (λ (it : Tickets). IsWorkOf it (g.T.Decide.is_verdict c.in-Some.handle.promise.task.now) worker) is.0 c.in-Ok.ensures.0 in
          let ok : IsWorkOf t (g.T.Decide.is_verdict task) worker = subst (λ v. IsWorkOf t v worker) (ap g.T.Decide.is_verdict is.1) here in (
            all-init (λ h. (h.promise.tickets.now ≡ t) × (h.promise.task.now ≡ task)) _ _ was,
            subst (All (IsWorkOf t (g.T.Decide.is_verdict task))) (sym c.in-Ok-push.ensures.items)
                (All-push (IsWorkOf t (g.T.Decide.is_verdict task)) _ worker (c.loop-handle.invariant.work t task jobs).1 ok),
          );
    }

pub loop-handle-preserved : goal.loop-handle-preserved
loop-handle-preserved g c = record {
  count = λ going. absurd (cc);
  work = λ t task jobs.
      let was = subst (All (λ h. (h.promise.tickets.now ≡ t) × (h.promise.task.now ≡ task))) c.in-Some.ensures.items (c.loop-handle.invariant.work t task jobs).0 in
      (all-init (λ h. (h.promise.tickets.now ≡ t) × (h.promise.task.now ≡ task)) _ _ was, (c.loop-handle.invariant.work t task jobs).1);
}

pub loop-handle-preserved-in_default-push : goal.loop-handle-preserved-in_default-push
loop-handle-preserved-in_default-push g c = record {
  count = λ going. absurd (cc);
  work = λ t task jobs.
      let was = subst (All (λ h. (h.promise.tickets.now ≡ t) × (h.promise.task.now ≡ task))) c.in-Some.ensures.items (c.loop-handle.invariant.work t task jobs).0 in (
        all-init (λ h. (h.promise.tickets.now ≡ t) × (h.promise.task.now ≡ task)) _ _ was,
        subst (All (IsWorkOf t (g.T.Decide.is_verdict task))) (sym c.in_default-push.ensures.items) (c.loop-handle.invariant.work t task jobs).1,
      );
}

pub returns-clause-work : goal.returns-clause-work
returns-clause-work g c = λ t task jobs. (c.loop-handle.invariant.work t task jobs).1
