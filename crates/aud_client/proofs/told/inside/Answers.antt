use Rattle.std.proofs.Common.{◌≡◌, ◌+◌, ◌∷◌, ◌++◌, [], cond, take, drop, sym, ap, ◌∙◌, arith, append_assoc, append-nil}
use Rattle.std.proofs.lemmas.List.{drop_more, take_more}
use Rattle.aud_client.specs.Private.ConnectionRead.{inside}
use Rattle.aud_client.proofs.told.inside.Goals as goal

pub loop-i-preserved : goal.loop-i-preserved
loop-i-preserved c =
    let recs = c.args.recs.now in
    let i = c.loop-i.i in
    let rec = c.index-recs-i.result in
    let goes_on = sym c.ends_connection.ensures ∙ c.if-ends_connection.false in
    let front : drop i recs ≡ rec ∷ drop (i + 1) recs = drop_more recs i rec (omega arith) ∙ ap (λ r. r ∷ drop (i + 1) recs) (sym c.index-recs-i.is) in
    let read : take (i + 1) recs ≡ take i recs ++ rec ∷ [] = take_more recs i rec (omega arith) ∙ ap (λ r. take i recs ++ r ∷ []) (sym c.index-recs-i.is) in
    c.loop-i.invariant
    ∙ ap (λ r. take i recs ++ inside r) front
    ∙ ap (λ b. take i recs ++ cond b [] (rec ∷ inside (drop (i + 1) recs))) goes_on
    ∙ sym (append_assoc (take i recs) (rec ∷ []) (inside (drop (i + 1) recs)))
    ∙ ap (λ r. r ++ inside (drop (i + 1) recs)) (sym read)

pub returns-then-ends_connection-clause-value : goal.returns-then-ends_connection-clause-value
returns-then-ends_connection-clause-value c =
    let recs = c.args.recs.now in
    let i = c.loop-i.i in
    let rec = c.index-recs-i.result in
    let ends = sym c.ends_connection.ensures ∙ c.if-ends_connection.true in
    let front : drop i recs ≡ rec ∷ drop (i + 1) recs = drop_more recs i rec (omega arith) ∙ ap (λ r. r ∷ drop (i + 1) recs) (sym c.index-recs-i.is) in
    sym (
    c.loop-i.invariant
    ∙ ap (λ r. take i recs ++ inside r) front
    ∙ ap (λ b. take i recs ++ cond b [] (rec ∷ inside (drop (i + 1) recs))) ends
    ∙ append-nil (take i recs)
    )
