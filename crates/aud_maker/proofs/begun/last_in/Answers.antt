use Rattle.std.proofs.Common.{sym, ◌∙◌}
use Rattle.std.proofs.lemmas.List.{take_all}
use Rattle.std.proofs.lemmas.List.Elements.{All-same}
use Rattle.aud_node.specs.OwnRecords.{own_numbers}
use Rattle.aud_maker.proofs.BegunLemmas.{IsUpTo, log-upto}
use Rattle.aud_maker.proofs.begun.last_in.Goals as goal

pub returns : goal.returns
returns c =
    let recs = c.recs-recs.result in
    let last = c.loop-number.last in
    let items = c.own-number-items.result.now in
    let own = All-same (IsUpTo recs c.args.pid.now last) (own_numbers c.args.log.now.recs c.args.pid.now) _ (sym c.own-number-items.ensures ∙ sym (take_all c.loop-number.number-index items c.loop-number-test.false)) c.loop-number.invariant in
    log-upto c.args.log.now.recs c.args.pid.now last (rw c.recs-recs.ensures at own)
