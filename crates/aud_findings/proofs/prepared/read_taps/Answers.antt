use Rattle.std.proofs.Common.{◌+◌, ◌++◌, ◌∷◌, [], sym, subst}
use Rattle.std.specs.List.{AllZip}
use Rattle.aud_base.specs.Lists.{numbers_from}
use Rattle.aud_base.proofs.Numbers.{numbers_from-more}
use Rattle.aud_findings.specs.Private.ReadTaps.{IsReadBy}
use Rattle.aud_findings.proofs.Read.{zip_append}
use Rattle.aud_findings.proofs.prepared.read_taps.Goals as goal

pub loop-place-preserved : goal.loop-place-preserved
loop-place-preserved c =
    let R = IsReadBy c.args.recording.now c.args.wanted.now c.args.orders in
    let place = c.loop-place.place in
    let taps = c.loop-place.taps.items in
    let tap = c.in_ok-tap.tap in
    subst (AllZip R (numbers_from 0 (place + 1))) (sym c.in_ok-push.ensures.items)
    (subst (λ ns. AllZip R ns (taps ++ tap ∷ [])) (sym (numbers_from-more place))
    (zip_append R (numbers_from 0 place) taps (place ∷ []) (tap ∷ []) c.loop-place.invariant (c.in_ok-tap.ensures, tt)))
