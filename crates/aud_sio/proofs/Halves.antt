-- What an assembler gives that holds a packet which awaits attachments.
use Rattle.std.proofs.Common.{◌≡◌, ◌+◌, ◌-◌, ◌<◌, ℕ, suc, List, [], ◌∷◌, length, map, Option, Some, None, is_some, true, Ok, Err, refl, ◌∙◌, arith}
use Rattle.std.proofs.lemmas.List.{length-map}
use Rattle.aud_sio.specs.declared.fault.SioFault.TheVariants.{TextWhileBinary}
use Rattle.aud_sio.specs.declared.whole.Whole.{Whole}
use Rattle.aud_sio.specs.declared.half.Half.{Half}
use Rattle.aud_sio.specs.Packet.{packet_view, packet_of}
use Rattle.aud_sio.specs.Message.{Message, Text}
use Rattle.aud_sio.specs.Assembly.{blob_view, whole_view, messages_of_whole, messages_held, wholes_after, Continues, Waits}
use Rattle.aud_sio.specs.Private.Awaited.{gives_with}
use Rattle.aud_sio.proofs.Assembling.{held, ends_early, text_among}

-- so many attachments are awaited, less one
abbrev pub after_next : Whole → ℕ
after_next w = w.packet.attachments - suc (length w.bin.items)

-- a packet that awaits attachments waits, with those that came, for what comes next
pub whole_held : (w : Whole) (l : List (ℕ × Message)) → packet_of w.text.now ≡ Ok (packet_view w.packet) → length w.bin.items < w.packet.attachments
    → wholes_after (messages_of_whole w) l ≡ gives_with 0 (whole_view w) (suc (after_next w)) l
whole_held w l reads awaits =
    let few : w.packet.attachments ≡ length (map blob_view w.bin.items) + suc (after_next w) = rw length-map (omega arith) in
    held w.text.now (packet_view w.packet) (map blob_view w.bin.items) (suc (after_next w)) l reads few

-- a packet that awaits attachments, with those that came, is no whole packet yet
pub whole_waits : (w : Whole) → packet_of w.text.now ≡ Ok (packet_view w.packet) → length w.bin.items < w.packet.attachments
    → Waits (messages_of_whole w)
whole_waits w reads awaits = whole_held w [] reads awaits ∙ ends_early 0 (whole_view w) (after_next w)

-- what an assembler holds gives no whole packet by itself
pub half_waits : (half : Option Half) → Waits (messages_held half)
half_waits None = refl
half_waits (Some half) = whole_waits half.whole half.read half.awaits

-- a text while attachments are awaited
pub text_held : (half : Option Half) (text : List ℕ) → is_some half ≡ true
    → Continues (messages_held half) (Text text ∷ []) (Err TextWhileBinary ∷ []) []
text_held None text awaits = absurd (cc awaits)
text_held (Some half) text awaits = λ place l.
    whole_held half.whole ((place, Text text) ∷ l) half.read half.awaits
    ∙ text_among 0 place (whole_view half.whole) (after_next half.whole) text l
