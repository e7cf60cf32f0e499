use Rattle.std.proofs.Common.{◌≡◌, ◌+◌, ◌-◌, ◌∙◌, ◌∷◌, suc, Some, ap, arith, drop, length, refl, slice_get, take, true}
use Rattle.std.proofs.lemmas.List.{take_rest}
use Rattle.std.proofs.lemmas.Option.{slice_get_read}
use Rattle.aud_base.proofs.Lists.{drop_at}
use Rattle.aud_tap.specs.declared.taps.Tap.{Tap}
use Rattle.aud_tap.specs.TapName.{is_tap_name}
use Rattle.aud_writer.specs.WrittenBundle.{ended, line_texts, recs_of_taps}
use Rattle.aud_parts.specs.declared.part.server_text.PlacedTap.{PlacedTap}
use Rattle.aud_parts.specs.ServerTexts.{AreNamed}
use Rattle.aud_parts.proofs.ServerTextLemmas.{CutTap, cut-tap, placed-more}
use Rattle.aud_parts.proofs.part.server_text.placed_taps.Goals as goal

pub loop-tap-preserved : goal.loop-tap-preserved
loop-tap-preserved c =
    let text = c.args.text.now in
    let taps = c.args.taps.now in
    let i = c.loop-tap.tap-index in
    let from = c.loop-tap.from in
    let tap = c.tap-item.result in
    let records = c.after_lines-records.result.now in
    let rest = c.after_lines-rest.result.now in
    let to = length text - length rest in
    let others = drop (i + 1) taps in
    let at : slice_get taps i ≡ Some tap = slice_get_read taps (length taps) i tap refl c.loop-tap-test.true c.tap-item.is in
    let one : suc i ≡ i + 1 = omega arith in
    let here : drop i taps ≡ tap ∷ others = drop_at taps i tap at ∙ ap (λ k. tap ∷ drop k taps) one in
    let form : AreNamed taps → is_tap_name tap.name ≡ true = λ named. ap (λ (t : Tap). is_tap_name t.name) c.tap-item.is ∙ named i tap c.loop-tap-test.true in
    let cut : AreNamed taps → text ≡ ended (line_texts (recs_of_taps taps)) → CutTap text tap others from to = λ named is.
    cut-tap text tap others from c.record_count.result to (take (length text - from) (drop from text)) records rest (form named) c.loop-tap.invariant.within
    (c.loop-tap.invariant.rest named is ∙ ap (λ ts. ended (line_texts (recs_of_taps ts))) here) (take_rest text from)
    c.after_lines-records.ensures.rest c.record_count.ensures c.after_lines-rest.ensures.rest refl in
    let placed : PlacedTap = record { name = c.in_ok-name.name; from = from; to = to } in
    record {
      placed = λ named is.
          placed-more text taps i tap c.loop-tap.placed.items c.push.new.self.items placed c.loop-tap-test.true c.tap-item.is
          (c.loop-tap.invariant.placed named is) c.in_ok-push.ensures.items c.in_ok-name.ensures (cut named is).text_is;
      rest = λ named is. (cut named is).rest;
      within = omega arith;
    }
