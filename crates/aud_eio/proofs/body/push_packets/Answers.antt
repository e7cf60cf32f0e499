use Rattle.std.proofs.Common.{◌≡◌, ◌++◌, ◌+◌, [], ◌∷◌, List, map, take, ap, sym, ◌∙◌, refl, string_bytes}
use Rattle.std.proofs.lemmas.List.{take_more, append_assoc, map-append}
use Rattle.std.proofs.lemmas.List.Elements.{All-append, All-cons, All-nil}
use Rattle.aud_eio.specs.declared.packet.Eio.{Eio}
use Rattle.aud_eio.specs.Packet.{engine_view, engine_text}
use Rattle.aud_eio.specs.Private.ReadBack.{ReadsBack}
use Rattle.aud_eio.specs.Body.{body_of}
use Rattle.aud_eio.proofs.Bodies.{gap-one_more, gap, gap-map, body-one_more}
use Rattle.aud_eio.proofs.body.push_packets.Goals as goal

pub loop-packet-preserved : goal.loop-packet-preserved
loop-packet-preserved c =
    let kept = c.loop-packet.invariant in
    let done : List Eio = take c.loop-packet.packet-index c.args.packets.now in
    let packet = c.packet-item.result in
    let more : take (c.loop-packet.packet-index + 1) c.args.packets.now ≡ done ++ packet ∷ [] =
    take_more c.args.packets.now c.loop-packet.packet-index packet c.loop-packet-test.true
    ∙ ap (λ p. done ++ p ∷ []) (sym c.packet-item.is) in
    let back = All-cons (λ p. ReadsBack (engine_view p)) packet [] c.push_packet.ensures.reads_back (All-nil (λ p. ReadsBack (engine_view p))) in
    let old = string_bytes c.args.body.now in
    let packets = map engine_view done in
    let written : string_bytes c.push_packet.new.text ≡ (old ++ body_of packets) ++ gap packets ++ engine_text (engine_view packet) =
    c.in_ok-push_packet.ensures.text ∙ ap (λ front. front ++ engine_text (engine_view packet)) c.in_ok-push_str.ensures.bytes ∙ rw (kept.0, kept.1, gap-map) refl in (
      written ∙ rw (more, map-append, body-one_more) (simp append_assoc refl),
      rw more (gap-one_more done packet),
      rw more (All-append (λ p. ReadsBack (engine_view p)) done (packet ∷ []) kept.2 back),
    )
