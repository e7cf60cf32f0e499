use Rattle.std.proofs.Common.{◌≡◌, ◌+◌, ◌∷◌, ◌++◌, map, drop, sym, ap, ◌∙◌, arith}
use Rattle.std.proofs.lemmas.List.{drop_more, take_rest}
use Rattle.aud_client.specs.Private.ClientRead.{cut_seen, begun, bad_of}
use Rattle.aud_client.specs.Seen.{connections_seen}
use Rattle.std.specs.Option.{option_or}
use Rattle.aud_client.proofs.ClientLemmas.{HasTaken-more, HasTaken-all}
use Rattle.aud_client.proofs.client_tap.ClientTap.build.Goals as goal

pub loop-number-preserved : goal.loop-number-preserved
loop-number-preserved c =
    let recs = c.args.recs.now in
    let i = c.loop-number.number in
    let rec = c.index-recs-number.result in
    let old = c.loop-number.read in
    let new = c.take.new.self in
    let front : drop i recs ≡ rec ∷ drop (i + 1) recs = drop_more recs i rec (omega arith) ∙ ap (λ r. r ∷ drop (i + 1) recs) (sym c.index-recs-number.is) in
    let after = take_rest recs (i + 1) in
    HasTaken-more recs i rec (connections_seen old.list.items) (connections_seen new.list.items) old.bad new.bad front
    (c.in_ok-take.ensures.connections ∙ ap (λ b. connections_seen old.list.items ++ map cut_seen (begun i rec b)) after)
    (c.in_ok-take.ensures.bad ∙ ap (λ b. option_or old.bad (bad_of (begun i rec b))) after)
    c.loop-number.invariant

pub invariant_of-result : goal.invariant_of-result
invariant_of-result c =
    let all = HasTaken-all c.args.recs.now c.loop-number.number (connections_seen c.loop-number.read.list.items) c.loop-number.read.bad (omega arith) c.loop-number.invariant in
    record { connections_are = all.0; bad_is = all.1 }
