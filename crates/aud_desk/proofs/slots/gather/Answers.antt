use Rattle.std.proofs.Common.{arith, ◌≡◌, ℕ, zero, suc, ap, ◌∙◌, sym, subst, ◌<◌, ◌+◌, ◌⊎◌, inl, inr, All, Contains, List, [], ◌∷◌, ◌++◌, vec_len, ⊎_elim, Some, refl, map, Vec, Global, option_map}
use Rattle.std.specs.Prelude.{IsSome, slice_get}
use Rattle.std.proofs.lemmas.Option.{get_or_from_slice_get, slice_get-map}
use Rattle.std.proofs.lemmas.Result.{IfOk-weaker}
use Rattle.std.proofs.lemmas.List.Elements.{Contains-append_left, Contains-push}
use Rattle.aud_desk.specs.declared.worker.Worker.{Worker}
use Rattle.aud_verdict.specs.declared.verdict.Verdict.{Verdict}
use Rattle.aud_desk.specs.Draws.{times, late_count, is_late, is_same}
use Rattle.aud_desk.specs.Views.{IsSeatOf, drawn, all_drawn}
use Rattle.aud_desk.specs.Workers.{HasEntry}
use Rattle.aud_desk.proofs.Lists.{weigh-append, all-init, all-last}
use Rattle.aud_desk.proofs.Filled.{entry-among}
use Rattle.aud_desk.proofs.slots.gather.Goals as goal

-- a number in two lists is in one of them
in_one : (i : ℕ) (xs ys : List ℕ) → 0 < times i (xs ++ ys) → (0 < times i xs) ⊎ (0 < times i ys)
in_one i xs ys h = by_first (times i xs) (times i ys) (omega (arith, weigh-append (is_same i) xs ys))
  where
    by_first : (a b : ℕ) → 0 < a + b → (0 < a) ⊎ (0 < b)
    by_first zero b h = inr (omega arith)
    by_first (suc a) b h = inl (omega arith)

pub settle-requires : goal.settle-requires
settle-requires c =
    let was = subst (All (λ (w : Worker). IsSeatOf c.args.tickets w.seat)) c.in-Some.ensures.items c.requires.seats in
    let mine = all-last (λ (w : Worker). IsSeatOf c.args.tickets w.seat) _ _ was in
    omega (arith, mine.1, c.in_ok-slots.ensures.len, c.count.ensures)

pub loop-worker-init : goal.loop-worker-init
loop-worker-init c =
    let t = c.args.tickets in
    let first = c.in-Some.first in
    let rest = c.pop.new.self.items in
    let items = c.in-Some.ensures.items in
    let P : Worker → Type 0 = λ w. IsSeatOf t w.seat in
    let was = subst (All P) items c.requires.seats in
    let seat = c.gather_first-all.ensures ∙ ap (λ s. s.seat) c.settle.ensures.seat.0 in
    let is = ap (λ s. s.me.0.drawn) seat in
    let mine = all-last P _ _ was in
    let n : vec_len c.in_ok-slots.slots ≡ t.n = omega (arith, c.in_ok-slots.ensures.len, c.count.ensures) in record {
      mine = all-init P _ _ was;
      all = (ap (λ s. s.table_id) seat ∙ mine.0, ap (λ s. s.me.0.n) seat ∙ mine.1, ap (λ s. s.me.0.seats) seat ∙ mine.2);
      enough = let late = subst (λ m. 0 < late_count m (drawn first.seat)) n c.settle.ensures.seat.1 in
          omega (arith, ap (late_count t.n) is, c.requires.all, c.in-Some.ensures.len, late);
      len = c.settle.ensures.len ∙ n;
      full = λ i low has. c.settle.ensures.full i (omega arith) (omega (arith, ap (times i) is));
      rest = λ w among. subst (λ (ws : List Worker). Contains ws w) (sym items) (Contains-append_left rest (first ∷ []) w among);
      found = λ i verdict has. ⊎_elim
          (λ old. absurd (c.in_ok-slots.ensures.empty i verdict old))
          (λ new. entry-among c.args.workers.items first i verdict (subst (λ (ws : List Worker). Contains ws first) (sym items) (Contains-push rest first)) new)
          (c.settle.ensures.found i verdict has);
    }

pub settle-requires-in-Some-pop : goal.settle-requires-in-Some-pop
settle-requires-in-Some-pop c =
    let was = subst (All (λ (w : Worker). IsSeatOf c.args.tickets w.seat)) c.in-Some-pop.ensures.items c.loop-worker.invariant.mine in
    let mine = all-last (λ (w : Worker). IsSeatOf c.args.tickets w.seat) _ _ was in
    omega (arith, mine.1, c.loop-worker.invariant.len)

pub gather_next-requires-clause-held : goal.gather_next-requires-clause-held
gather_next-requires-clause-held c =
    let P : Worker → Type 0 = λ w. IsSeatOf c.args.tickets w.seat in
    let was = subst (All P) c.in-Some-pop.ensures.items c.loop-worker.invariant.mine in
    subst (IsSeatOf c.args.tickets) (sym c.settle-in-Some-pop.ensures.seat.0) (all-last P _ _ was)

pub loop-worker-preserved : goal.loop-worker-preserved
loop-worker-preserved c =
    let t = c.args.tickets in
    let inv = c.loop-worker.invariant in
    let worker = c.in-Some-pop.worker in
    let items = c.in-Some-pop.ensures.items in
    let P : Worker → Type 0 = λ w. IsSeatOf t w.seat in
    let was = subst (All P) items inv.mine in
    let settled = c.settle-in-Some-pop.ensures in
    let before = all_drawn c.loop-worker.all in
    let is = c.gather_next.ensures.drawn ∙ ap (λ s. before ++ drawn s) settled.seat.0 in
    let n : vec_len c.loop-worker.slots ≡ t.n = inv.len in record {
      mine = all-init P _ _ was;
      all = c.gather_next.ensures.all;
      enough = let late = subst (λ m. 0 < late_count m (drawn worker.seat)) n settled.seat.1 in
          omega (arith, ap (late_count t.n) is, weigh-append (is_late t.n) before (drawn worker.seat), inv.enough, c.in-Some-pop.ensures.len, late);
      len = settled.len ∙ n;
      full = λ i low has. ⊎_elim (λ old. settled.kept i (inv.full i low old)) (λ new. settled.full i (omega arith) new)
          (in_one i before (drawn worker.seat) (subst (λ xs. 0 < times i xs) is has));
      rest = λ w among. inv.rest w (subst (λ (ws : List Worker). Contains ws w) (sym items) (Contains-append_left _ (worker ∷ []) w among));
      found = λ i verdict has. ⊎_elim
          (inv.found i verdict)
          (λ new. entry-among c.args.workers.items worker i verdict (inv.rest worker (subst (λ (ws : List Worker). Contains ws worker) (sym items) (Contains-push _ worker))) new)
          (settled.found i verdict has);
    }

pub unwrapped-requires : goal.unwrapped-requires
unwrapped-requires c =
    let inv = c.loop-worker.invariant in
    let slots = c.loop-worker.slots.items in
    λ k d low.
    let once = c.close.ensures k (omega (arith, inv.len)) in
    let full = inv.full k (omega (arith, inv.len)) (omega arith) in
    let is = get_or_from_slice_get slots k (Some full.0) d full.1 in
    subst IsSome (sym is) refl

pub returns-clause-each : goal.returns-clause-each
returns-clause-each c =
    let inv = c.loop-worker.invariant in
    let slots = c.loop-worker.slots.items in
    IfOk-weaker c.unwrapped.result (λ (v : Vec Verdict Global). map Some v.items ≡ slots)
    (λ v. (i : ℕ) (verdict : Verdict) → slice_get v.items i ≡ Some verdict → HasEntry c.args.workers.items i verdict)
    (λ v is i verdict at. inv.found i verdict
    (subst (λ s. slice_get s i ≡ Some (Some verdict)) is (slice_get-map Some v.items i ∙ ap (option_map Some) at)))
    c.unwrapped.ensures
