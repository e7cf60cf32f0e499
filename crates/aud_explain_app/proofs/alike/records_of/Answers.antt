use Rattle.std.proofs.Common.{◌≡◌, ◌++◌, ℕ, flat_map, get_or, option_copied, slice_get, string_bytes, take, append_assoc, ap, refl, ◌∙◌, arith}
use Rattle.std.proofs.lemmas.Grind.{common_steps}
use Rattle.std.proofs.lemmas.Option.{gets}
use Rattle.aud_cert.specs.FaultWord.{fault_word}
use Rattle.aud_explain_app.specs.Alike.{tap_name}
use Rattle.aud_explain_app.proofs.Steps.{flat_item}
use Rattle.aud_explain_app.proofs.alike.records_of.Goals as goal

pub loop-place-preserved : goal.loop-place-preserved
loop-place-preserved c =
    let taps = c.args.taps.now in
    let f = λ (k : ℕ). tap_name (slice_get taps k) in
    let i = c.loop-place.place-index in
    let front = flat_map f (take i c.args.places.now) in
    let place : ℕ = get_or c.args.places.now i 0 in
    let got : option_copied c.get.result ≡ slice_get taps place = grind (arith, common_steps, gets) in
    c.in_ok-push_tap.ensures ∙ ap (λ o. string_bytes c.loop-place.name ++ tap_name o) got ∙ ap (λ bs. bs ++ f place) c.loop-place.invariant
    ∙ append_assoc (fault_word c.args.fault.now) front (f place)
    ∙ ap (λ bs. fault_word c.args.fault.now ++ bs) (flat_item f c.args.places.now i 0 front (front ++ f place) c.loop-place-test.true refl refl)
