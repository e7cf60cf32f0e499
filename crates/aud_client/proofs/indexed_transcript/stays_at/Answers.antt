use Rattle.std.proofs.Common.{◌∷◌, [], map, sym, ap, ◌∙◌, Some, None, append-nil}
use Rattle.std.specs.Option.{option_copied}
use Rattle.std.proofs.lemmas.List.{map-append}
use Rattle.aud_client.proofs.Numbers.{numbered-next}
use Rattle.aud_client.proofs.indexed_transcript.stays_at.Goals as goal

pub loop-number-preserved : goal.loop-number-preserved
loop-number-preserved c =
    numbered-next c.args.stays.now c.args.numbers.now c.loop-number.number-index (Some c.in-Some.stay.now) _ _
    c.loop-number-test.true (sym (ap option_copied c.in-Some.is) ∙ c.stay_at.ensures) c.loop-number.invariant
    (ap (map (λ stay. stay.now)) c.in_ok-push.ensures.items ∙ map-append (λ stay. stay.now) c.loop-number.at.items (c.in-Some.stay ∷ []))

pub loop-number-preserved-in_default : goal.loop-number-preserved-in_default
loop-number-preserved-in_default c =
    numbered-next c.args.stays.now c.args.numbers.now c.loop-number.number-index None _ _
    c.loop-number-test.true (sym (ap option_copied c.in_default.is) ∙ c.stay_at.ensures) c.loop-number.invariant (sym (append-nil _))
