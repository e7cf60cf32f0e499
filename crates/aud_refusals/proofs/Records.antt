-- A record after those of its connection.
use Rattle.std.proofs.Common.{◌≡◌, ◌-◌, ℕ, List, [], ◌++◌, take, drop, refl, sym, ap, ◌∙◌, subst, Option, Some, None, Result, Ok, Err, IfOk, slice_get}
use Rattle.std.specs.Option.{option_and_then}
use Rattle.std.specs.Result.{result_ok}
use Rattle.aud_tap.specs.declared.records.ClientRec.{ClientRec}
use Rattle.aud_eio.specs.Packet as eio
use Rattle.aud_eio.specs.declared.packet.EioFault.{EioFault}
use Rattle.aud_sio.specs.Message.{Message}
use Rattle.aud_sio.specs.Wholes.{wholes_of}
use Rattle.aud_client.specs.TapPackets.{engine_packets}
use Rattle.aud_rows.specs.Marks.{begin_from}
use Rattle.aud_refusals.specs.declared.no_packet.NoPacket.{NoPacket}
use Rattle.aud_refusals.specs.NoPacket.{engine_refusal, first_refusal, message_in, message_of, messages_before, refused_at, packet_messages, record_refusal, texts_of}
use Rattle.aud_refusals.specs.Private.Fed.{Passes, refusal_to, refused_to}

-- what is held says what came before
refused-same : (before : List (ℕ × Message)) (held : List Message) (rec : ClientRec) → Passes [] before held → refused_to held rec ≡ record_refusal before rec
refused-same before held rec passes = go (engine_packets rec)
  where
    go : (r : Result (List eio.Packet) EioFault)
        → ◌≡◌ {A = Option NoPacket} (elim r [ Ok packets ↦ refusal_to held (packet_messages 1 packets) | Err fault ↦ engine_refusal 1 (texts_of rec) ])
        (elim r [ Ok packets ↦ first_refusal (wholes_of (before ++ packet_messages 1 packets)) | Err fault ↦ engine_refusal 1 (texts_of rec) ])
    go (Ok packets) = sym (passes.next (packet_messages 1 packets))
    go (Err fault) = refl

-- by its packets, and where it has none
pub refused-packets : (held : List Message) (rec : ClientRec) (packets : List eio.Packet) → Some packets ≡ result_ok (engine_packets rec) → refusal_to held (packet_messages 1 packets) ≡ refused_to held rec
refused-packets held rec packets e = go (engine_packets rec) e
  where
    go : (r : Result (List eio.Packet) EioFault) → Some packets ≡ result_ok r
        → refusal_to held (packet_messages 1 packets) ≡ elim r [ Ok packets ↦ refusal_to held (packet_messages 1 packets) | Err fault ↦ engine_refusal 1 (texts_of rec) ]
    go (Ok given) e =
        let same : packets ≡ given = cc in
        ap (λ (ps : List eio.Packet). refusal_to held (packet_messages 1 ps)) same
    go (Err fault) e = absurd (cc)

pub refused-texts : (held : List Message) (rec : ClientRec) → None ≡ result_ok (engine_packets rec) → engine_refusal 1 (texts_of rec) ≡ refused_to held rec
refused-texts held rec e = go (engine_packets rec) e
  where
    go : (r : Result (List eio.Packet) EioFault) → None ≡ result_ok r
        → engine_refusal 1 (texts_of rec) ≡ elim r [ Ok packets ↦ refusal_to held (packet_messages 1 packets) | Err fault ↦ engine_refusal 1 (texts_of rec) ]
    go (Ok given) e = absurd (cc)
    go (Err fault) e = refl

-- the message of a packet of it
pub message-packets : (rec : ClientRec) (number : ℕ) (packets : List eio.Packet) → Some packets ≡ result_ok (engine_packets rec) → message_in (slice_get packets (number - 1)) ≡ message_of rec number
message-packets rec number packets e = go (engine_packets rec) e
  where
    go : (r : Result (List eio.Packet) EioFault) → Some packets ≡ result_ok r
        → message_in (slice_get packets (number - 1)) ≡ elim r [ Ok packets ↦ message_in (slice_get packets (number - 1)) | Err fault ↦ None ]
    go (Ok given) e =
        let same : packets ≡ given = cc in
        ap (λ (ps : List eio.Packet). message_in (slice_get ps (number - 1))) same
    go (Err fault) e = absurd (cc)

pub message-none : (rec : ClientRec) (number : ℕ) → None ≡ result_ok (engine_packets rec) → None ≡ message_of rec number
message-none rec number e = go (engine_packets rec) e
  where
    go : (r : Result (List eio.Packet) EioFault) → None ≡ result_ok r → ◌≡◌ {A = Option (List ℕ)} None (elim r [ Ok packets ↦ message_in (slice_get packets (number - 1)) | Err fault ↦ None ])
    go (Ok given) e = absurd (cc)
    go (Err fault) e = refl

-- the record with this number
pub record-of : (recs : List ClientRec) (number : ℕ) (rec : ClientRec) (before connection : List ClientRec) (held : List Message) → slice_get recs number ≡ Some rec
    → before ≡ take number recs → connection ≡ drop (begin_from 0 0 before) before → Passes [] (messages_before connection) held
    → refused_to held rec ≡ refused_at recs number
record-of recs number rec before connection held is front back passes =
    let all : connection ≡ drop (begin_from 0 0 (take number recs)) (take number recs) = back ∙ ap (λ (b : List ClientRec). drop (begin_from 0 0 b) b) front in
    refused-same (messages_before connection) held rec passes
    ∙ ap (λ (c : List ClientRec). record_refusal (messages_before c) rec) all
    ∙ ap (λ (o : Option ClientRec). option_and_then (record_refusal (messages_before (drop (begin_from 0 0 (take number recs)) (take number recs)))) o) (sym is)

pub found-is : {E : Type 0} (r : Result (Option NoPacket) E) (x y : Option NoPacket) → x ≡ y → IfOk r (λ found. found ≡ x) → IfOk r (λ found. found ≡ y)
found-is r x y e given = subst (λ (o : Option NoPacket). IfOk r (λ found. found ≡ o)) e given
