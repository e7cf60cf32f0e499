use Rattle.std.proofs.Common.{◌≡◌, ◌∙◌, [], ap, sym, take, arith}
use Rattle.std.specs.List.{flat_map}
use Rattle.std.proofs.lemmas.List.{drop_all, take_all}
use Rattle.std.proofs.lemmas.Option.{get_or_from_slice_get}
use Rattle.aud_base.specs.FirstTexts.{with_text, with_texts}
use Rattle.aud_base.proofs.FirstTexts.{first-texts, with_texts-append, with_texts-more, with_texts-once, with_texts-one}
use Rattle.aud_node.specs.NamedPids.{named_pids, node_pids}
use Rattle.aud_parts.specs.Plan.{all_mentions, client_pids}
use Rattle.aud_parts.proofs.plan.sessions.Sessions.of.Goals as goal

pub loop-number-preserved : goal.loop-number-preserved
loop-number-preserved c =
    let l = c.loop-number in
    let pids = named_pids c.args.logs.now.taps in
    let pid = c.named_pid.result.now in
    let read = sym (get_or_from_slice_get pids l.number pid pid c.named_pid.ensures) in
    c.in_ok-mention.ensures ∙ ap (λ ts. with_text ts pid) l.invariant ∙ with_texts-one [] pids l.number pid (omega arith) read

pub loop-client-init : goal.loop-client-init
loop-client-init c =
    let l = c.loop-number in
    let taps = c.args.logs.now.taps in
    let named = flat_map node_pids taps in
    let all : take l.number (named_pids taps) ≡ named_pids taps = take_all l.number (named_pids taps) (omega arith) in
    l.invariant ∙ ap (with_texts []) (all ∙ sym (first-texts named)) ∙ with_texts-once [] named

pub loop-client-preserved : goal.loop-client-preserved
loop-client-preserved c =
    let l = c.loop-client in
    let clients = c.args.clients.now in
    let client = c.client-item.result in
    let pids = c.as_slice-pid-items.result.now in
    sym (ap (with_texts c.loop-pid.sessions) (drop_all c.loop-pid.pid-index pids c.loop-pid-test.false)) ∙ c.loop-pid.invariant
    ∙ ap (λ pids. with_texts l.sessions pids) c.as_slice-pid-items.ensures
    ∙ ap (λ ts. with_texts ts (client_pids client)) l.invariant
    ∙ with_texts-more clients l.client-index client (omega arith) c.client-item.is client_pids (with_texts [] (flat_map node_pids c.args.logs.now.taps))

pub returns : goal.returns
returns c =
    let l = c.loop-client in
    let taps = c.args.logs.now.taps in
    let clients = c.args.clients.now in
    l.invariant
    ∙ ap (λ cs. with_texts (with_texts [] (flat_map node_pids taps)) (flat_map client_pids cs)) (take_all l.client-index clients (omega arith))
    ∙ sym (with_texts-append [] (flat_map node_pids taps) (flat_map client_pids clients))
    ∙ first-texts (all_mentions taps clients)
