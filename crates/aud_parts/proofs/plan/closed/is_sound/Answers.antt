use Rattle.std.proofs.Common.{◌≡◌, ◌<◌, ◌≤◌, ◌+◌, ℕ, Some, suc, nat_eq, get_or, length, drop, sym, subst, ◌∙◌, refl, arith, below_more}
use Rattle.std.specs.List.{All, count_by}
use Rattle.std.proofs.lemmas.List.{drop_all, take_all}
use Rattle.std.proofs.lemmas.List.Elements.{All-more}
use Rattle.std.proofs.lemmas.Option.{slice_get_read}
use Rattle.aud_base.specs.OneForEach.{OneForEach}
use Rattle.aud_tap.specs.declared.taps.Tap.{Tap}
use Rattle.aud_node.specs.Cluster.{node_recs}
use Rattle.aud_parts.specs.Plan.{IsClientIn, StaysWhole, is_part}
use Rattle.aud_parts.proofs.ListSteps.{one_for_each-from}
use Rattle.aud_parts.proofs.PartPids.{length-pids_with}
use Rattle.aud_parts.proofs.plan.closed.is_sound.Goals as goal

pub loop-own-preserved : goal.loop-own-preserved
loop-own-preserved c =
    let plan = c.args.plan.now in
    let Below = λ (part : ℕ). part < length plan.weights.items in
    let owns = c.deref-own-items.result.now in
    let below : get_or owns c.loop-own.own-index 0 < length plan.weights.items = omega (arith, plan.weights.ok.0) in
    All-more Below owns c.loop-own.own-index 0 c.loop-own-test.true c.loop-own.invariant below

pub loop-number-preserved : goal.loop-number-preserved
loop-number-preserved c = λ rest.
    let told = c.args.clients.now in
    let parts = c.args.plan.now.clients.items in
    let n = c.loop-number.number in
    let next : n + 1 ≡ suc n = omega arith in
    c.loop-number.invariant
    (one_for_each-from (IsClientIn c.args.plan.now) told parts n c.index-clients-number.result c.index.result.now
    (slice_get_read told (length told) n c.index-clients-number.result refl c.loop-number-test.true c.index-clients-number.is)
    (slice_get_read parts (length parts) n c.index.result.now refl (omega (arith, c.args.plan.now.clients.ok.0)) c.index.ensures)
    (sym c.is_client_in.ensures ∙ c.if-not-is_client_in.false)
    (subst (λ k. OneForEach (IsClientIn c.args.plan.now) (drop k told) (drop k parts)) next rest))

pub loop-tap-preserved : goal.loop-tap-preserved
loop-tap-preserved c =
    let Whole = λ (tap : Tap). StaysWhole c.args.plan.now (node_recs (Some tap.records)) in
    All-more Whole c.args.taps.now c.loop-tap.tap-index c.tap-item.result c.loop-tap-test.true c.loop-tap.invariant
    (subst Whole c.tap-item.is (c.stays_whole.ensures c.if-not-stays_whole.false))

pub loop-part-preserved : goal.loop-part-preserved
loop-part-preserved c =
    let plan = c.args.plan.now in
    record {
      sessions = below_more (λ (k : ℕ). count_by (λ own. nat_eq own k) plan.parts.items ≤ 65536) c.loop-part.part c.loop-part.invariant.sessions (omega arith);
      clients = below_more (λ (k : ℕ). count_by (is_part k) plan.clients.items ≤ 4096) c.loop-part.part c.loop-part.invariant.clients (omega arith);
    }

pub returns-clause-closed : goal.returns-clause-closed
returns-clause-closed c = λ e.
    let plan = c.args.plan.now in
    let told = c.args.clients.now in
    let parts = plan.clients.items in
    let n = c.loop-number.number in
    let Whole = λ (tap : Tap). StaysWhole plan (node_recs (Some tap.records)) in
    let none : OneForEach (IsClientIn plan) (drop n told) (drop n parts) =
    rw (drop_all n told c.loop-number-test.false, drop_all n parts (omega (arith, plan.clients.ok.0))) tt in
    record {
      each_session = omega (arith, plan.parts.ok.0);
      within = subst (All (λ part. part < length plan.weights.items)) (take_all c.loop-own.own-index c.deref-own-items.result.now c.loop-own-test.false ∙ c.deref-own-items.ensures.value) c.loop-own.invariant;
      each_client = c.loop-number.invariant none;
      each_log = subst (All Whole) (take_all c.loop-tap.tap-index c.args.taps.now (omega arith)) c.loop-tap.invariant;
    }

pub returns-clause-room : goal.returns-clause-room
returns-clause-room c = λ e.
    let plan = c.args.plan.now in
    record {
      sessions_fit = λ part h.
          let few = c.loop-part.invariant.sessions part (omega (arith, plan.weights.ok.0)) in
          omega (arith, few, length-pids_with part plan.sessions plan.parts.items);
      clients_fit = λ part h. c.loop-part.invariant.clients part (omega (arith, plan.weights.ok.0));
    }
