use Rattle.std.proofs.Common.{◌++◌, ◌∷◌, [], map, ap, sym, ◌∙◌, lit<, refl}
use Rattle.std.proofs.lemmas.List.{map-append, append-nil, append_assoc}
use Rattle.std.proofs.lemmas.Iterator.Splits.{YieldsList-from_str_split}
use Rattle.aud_eio.specs.Body.{body_pieces}
use Rattle.aud_eio.proofs.Bodies.{after_some, after_none}
use Rattle.aud_refusals.proofs.texts.pieces_of.Goals as goal

pub loop-piece-init : goal.loop-piece-init
loop-piece-init c =
    let split = c.split-piece-items.ensures in
    let same = c.into_iter-piece-iterator.ensures.into_iter_gives in
    let yields = YieldsList-from_str_split 30 c.args.body.now (lit< tt) (rw same split.text) (rw same split.has_more) (rw same split.pattern) in
    (tt, tt, (body_pieces c.args.body.now, yields, rw c.new-pieces.ensures.items refl))

pub loop-piece-preserved : goal.loop-piece-preserved
loop-piece-preserved c =
    let kept = c.loop-piece.invariant.2 in
    let done = map (λ piece. piece.now) c.loop-piece.pieces.items in
    let next = after_some {t = c.next.new.self} c.in-Some.piece kept.0 kept.1 c.in-Some.ensures.steps in
    (tt, tt, (next.0, next.2, rw (c.in_ok-push.ensures.items, map-append) (kept.2 ∙ ap (λ texts. done ++ texts) next.1 ∙ sym (append_assoc done (c.in-Some.piece.now ∷ []) next.0))))

pub returns : goal.returns
returns c =
    let kept = c.loop-piece.invariant.2 in
    let done = map (λ piece. piece.now) c.loop-piece.pieces.items in
    let whole = after_none {t = c.next.new.self} kept.0 kept.1 c.in-None.ensures.steps in
    sym (kept.2 ∙ ap (λ texts. done ++ texts) whole ∙ append-nil done)
