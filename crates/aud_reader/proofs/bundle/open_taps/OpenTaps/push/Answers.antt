use Rattle.std.proofs.Common.{◌≡◌, ◌∙◌, ◌∷◌, [], length, None, ap, sym, arith}
use Rattle.std.specs.String.{string_bytes}
use Rattle.std.proofs.lemmas.List.{length-map, map-append}
use Rattle.aud_tap.specs.declared.taps.Tap.{Tap}
use Rattle.aud_tap.specs.Names.{place_of}
use Rattle.aud_reader.specs.SoFar.{tap_so_far, taps_so_far}
use Rattle.aud_reader.proofs.KeptLemmas.{places-put}
use Rattle.aud_reader.proofs.bundle.open_taps.OpenTaps.push.Goals as goal

pub returns-clause-places : goal.returns-clause-places
returns-clause-places c = λ places first.
    let ts = taps_so_far c.args.self.now in
    let t = tap_so_far c.new-2.result in
    let spells : string_bytes c.in_ok-key.key ≡ t.name = c.in_ok-key.ensures.ok ∙ sym (ap (λ (x : Tap). x.name) c.new-2.ensures ∙ c.in_ok-name.ensures) in
    let sized : c.len-place.result ≡ length ts = omega (arith, c.len-place.ensures, c.args.self.now.taps.ok.0, length-map c.args.self.now.taps.items tap_so_far) in
    let absent : place_of ts t.name ≡ None = rw (← spells, c.in_ok-key.ensures.ok) first in
    λ text. rw (c.in_ok-push.ensures.items, map-append tap_so_far c.args.self.now.taps.items (c.new-2.result ∷ []))
    (places-put c.args.self.now.places c.insert.new.self ts t c.in_ok-key.key c.len-place.result spells sized c.in_ok-insert.ensures.updates places absent text)
