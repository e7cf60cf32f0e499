use Rattle.std.proofs.Common.{map, ap, ◌∙◌, lit<, Ok}
use Rattle.std.proofs.lemmas.List.{map-append, append-nil}
use Rattle.std.proofs.lemmas.Result.{err_from_is_err_and}
use Rattle.std.proofs.lemmas.Iterator.Splits.{YieldsList-from_str_split}
use Rattle.aud_eio.specs.Packet.{engine_view}
use Rattle.aud_eio.specs.Body.{engine_packets_of, packets_of_texts, body_pieces}
use Rattle.aud_eio.proofs.Bodies.{after, after-nil, after-ok, after-err, after_some, after_none}
use Rattle.aud_eio.proofs.body.decode_payload.Goals as goal

pub loop-piece-init : goal.loop-piece-init
loop-piece-init c =
    let split = c.split-piece-items.ensures in
    let same = c.into_iter-piece-iterator.ensures.into_iter_gives in
    let yields = YieldsList-from_str_split 30 c.args.body.now (lit< tt) (rw same split.text) (rw same split.has_more) (rw same split.pattern) in
    (tt, tt, (body_pieces c.args.body.now, yields, rw c.new-packets.ensures.items (after-nil (engine_packets_of c.args.body.now))))

pub loop-piece-preserved : goal.loop-piece-preserved
loop-piece-preserved c =
    let kept = c.loop-piece.invariant.2 in
    let done = map engine_view c.loop-piece.packets.items in
    let next = after_some {t = c.next.new.self} c.in-Some.piece kept.0 kept.1 c.in-Some.ensures.steps in
    let more = after-ok done c.in-Some.piece.now next.0 (engine_view c.in_ok-packet.packet) c.in_ok-packet.ensures.packet in
    (tt, tt, (next.0, next.2, rw (c.in_ok-push.ensures.items, map-append) (kept.2 ∙ ap (λ texts. after done (packets_of_texts texts)) next.1 ∙ more)))

pub returns-in_err-packet : goal.returns-in_err-packet
returns-in_err-packet c =
    let p = err_from_is_err_and c.from_residual.result c.from_residual.ensures.1 in
    let kept = c.loop-piece.invariant.2 in
    let done = map engine_view c.loop-piece.packets.items in
    let next = after_some {t = c.next.new.self} c.in-Some.piece kept.0 kept.1 c.in-Some.ensures.steps in
    rw (p.1, p.2) (λ other.
    kept.2 ∙ ap (λ texts. after done (packets_of_texts texts)) next.1
    ∙ after-err done c.in-Some.piece.now next.0 c.in_err-packet.field-0.0 (c.in_err-packet.ensures.packet other))

pub returns : goal.returns
returns c =
    let kept = c.loop-piece.invariant.2 in
    let done = map engine_view c.loop-piece.packets.items in
    let whole = after_none {t = c.next.new.self} kept.0 kept.1 c.in-None.ensures.steps in
    kept.2 ∙ ap (λ texts. after done (packets_of_texts texts)) whole ∙ ap Ok (append-nil done)
