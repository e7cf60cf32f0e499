use Rattle.std.proofs.Common.{◌∙◌, length, refl, sym, ap}
use Rattle.std.specs.List.{list_all}
use Rattle.std.proofs.lemmas.Option.{MatchOption-at_none, MatchOption-at_some}
use Rattle.aud_node.specs.Cluster.{Cluster}
use Rattle.aud_client.specs.Replies.{naming_places}
use Rattle.aud_maker.specs.Made.{is_turn_ordered}
use Rattle.aud_maker.proofs.FirstFault.{in_order, first_no_log, first_chain, first_order, first_client, no_fault}
use Rattle.aud_maker.proofs.maker.make.Goals as goal

pub returns-then-not-is_opened-clause-why : goal.returns-then-not-is_opened-clause-why
returns-then-not-is_opened-clause-why c = rw (← c.logs-logs.ensures) (first_no_log _ _ c.if-not-is_opened.ensures)

pub returns-in_default-clause-why : goal.returns-in_default-clause-why
returns-in_default-clause-why c =
    rw (← c.logs-logs.ensures) (first_chain _ _ c.if-not-is_opened.ensures (MatchOption-at_none _ _ c.in_default.is c.in_ok-found.ensures))

pub returns-then-not-are_ordered-clause-why : goal.returns-then-not-are_ordered-clause-why
returns-then-not-are_ordered-clause-why c =
    rw (← c.logs-logs.ensures)
    (first_order _ _ c.if-not-is_opened.ensures _ _ refl (MatchOption-at_some _ _ c.in-Some.chain c.in-Some.is c.in_ok-found.ensures)
    (ap (list_all (is_turn_ordered c.logs-logs.result.now)) (sym c.deref.ensures.value) ∙ sym c.if-not-are_ordered.ensures))

pub returns-in_default-only_client-clause-why : goal.returns-in_default-only_client-clause-why
returns-in_default-only_client-clause-why c =
    rw (← c.logs-logs.ensures)
    (first_client _ _ c.if-not-is_opened.ensures _ _ refl (MatchOption-at_some _ _ c.in-Some.chain c.in-Some.is c.in_ok-found.ensures)
    (ap (list_all (is_turn_ordered c.logs-logs.result.now)) (sym c.deref.ensures.value) ∙ sym c.if-not-are_ordered.ensures)
    (rw c.logs-logs.ensures c.in_default-only_client.ensures))

pub certificate_of-requires : goal.certificate_of-requires
certificate_of-requires c =
    in_order _ _ 0 _ (MatchOption-at_some _ _ c.in-Some.chain c.in-Some.is c.in_ok-found.ensures).are_turns
    (ap (list_all (is_turn_ordered c.logs-logs.result.now)) (sym c.deref.ensures.value) ∙ sym c.if-not-are_ordered.ensures)

pub returns-clause-no_fault : goal.returns-clause-no_fault
returns-clause-no_fault c =
    rw (← c.logs-logs.ensures)
    (no_fault _ _ c.if-not-is_opened.ensures _ _ refl (MatchOption-at_some _ _ c.in-Some.chain c.in-Some.is c.in_ok-found.ensures)
    (ap (list_all (is_turn_ordered c.logs-logs.result.now)) (sym c.deref.ensures.value) ∙ sym c.if-not-are_ordered.ensures)
    (ap (λ (l : Cluster). length (naming_places l.taps c.args.pid.now)) c.logs-logs.ensures ∙ ap (λ ns. length ns) c.in-Some-only_client.ensures.only))
