use Rattle.std.proofs.Common.{◌≡◌, ◌∙◌, List, Some, true, refl, sym, ap, option_map, slice_get}
use Rattle.std.proofs.lemmas.Bool.{ltb-true}
use Rattle.std.proofs.lemmas.Option.{slice_get-map, slice_get_read}
use Rattle.aud_base.proofs.SameText.{same_text}
use Rattle.aud_tap.specs.Forms.{is_text}
use Rattle.aud_reader.specs.declared.bundle.open_tap.OpenTap.{OpenTap}
use Rattle.aud_reader.specs.SoFar.{tap_so_far, taps_so_far}
use Rattle.aud_reader.proofs.TapLaws.{first_with_name}
use Rattle.aud_reader.proofs.bundle.open_taps.OpenTaps.known.Goals as goal

pub returns : goal.returns
returns c =
    let ts = taps_so_far c.args.self.now in
    let t = tap_so_far c.in_ok-tap.tap.now in
    let place = c.in_ok-place.place in
    let taps = c.args.self.now.taps.items in
    let looked = c.in_ok-tap.ensures.lookup in
    let there : slice_get taps place ≡ Some c.in_ok-tap.tap.now =
    ap (λ (xs : List OpenTap). slice_get xs place) (sym c.deref.ensures.value) ∙ slice_get_read c.deref.result.now _ place c.in_ok-tap.tap.now refl (ltb-true _ _ (sym looked.0)) looked.1 in
    let at : slice_get ts place ≡ Some t = slice_get-map tap_so_far taps place ∙ ap (option_map tap_so_far) there in
    let named : is_text t.name c.args.name.now ≡ true = sym c.is_named.ensures ∙ c.if-not-is_named.false in
    rw (← same_text t.name c.args.name.now named) (first_with_name ts c.requires.names place t at)
