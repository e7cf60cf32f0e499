-- Texts and packets one after another.
use Rattle.std.proofs.Common.{◌≡◌, ◌+◌, ◌<◌, ℕ, suc, List, ◌∷◌, map, drop, length, refl, sym, ap, ◌∙◌, subst, Option, Some, None, arith, get_or}
use Rattle.std.specs.Borrow.{Bor}
use Rattle.std.specs.Option.{option_or}
use Rattle.std.proofs.lemmas.List.{at_drop_more}
use Rattle.aud_eio.specs.Packet as eio
use Rattle.aud_sio.specs.Message.{Message, messages_of}
use Rattle.aud_refusals.specs.NoPacket.{engine_refusal, engine_refused, packet_messages}
use Rattle.aud_refusals.specs.declared.no_packet.NoPacket.{NoPacket}
use Rattle.aud_refusals.specs.declared.no_packet.Refusal.TheVariants.{Socket}
use Rattle.aud_sio.specs.declared.fault.SioFault.{SioFault}
use Rattle.aud_refusals.proofs.Feeding.{Fed-none, Fed-some}
use Rattle.aud_refusals.specs.Private.Fed.{Fed, refusal_to}

-- what is no value is none
pub none-of : {A : Type 0} (o : Option A) → ((x : A) → o ≡ Some x → ⊥) → o ≡ None
none-of None h = refl
none-of (Some x) h = absurd (h x refl)

-- past a text that is an Engine.IO packet
pub engine-past : (texts : List (Bor (List ℕ))) (i : ℕ) (d : Bor (List ℕ)) (found : Option NoPacket) → i < length texts
    → found ≡ engine_refused (i + 1) (get_or texts i d).now → ((x : NoPacket) → found ≡ Some x → ⊥)
    → engine_refusal (i + 1 + 1) (map (λ text. text.now) (drop (i + 1) texts)) ≡ engine_refusal (i + 1) (map (λ text. text.now) (drop i texts))
engine-past texts i d found lt is none =
    let rest = map (λ (text : Bor (List ℕ)). text.now) (drop (i + 1) texts) in
    let next : suc (i + 1) ≡ i + 1 + 1 = omega arith in
    sym (
    at_drop_more (λ (ts : List (Bor (List ℕ))). engine_refusal (i + 1) (map (λ text. text.now) ts)) texts i d lt
    ∙ ap (λ (o : Option NoPacket). option_or o (engine_refusal (suc (i + 1)) rest)) (sym is ∙ none-of found none)
    ∙ ap (λ n. engine_refusal n rest) next
    )

-- past a packet of whose messages none is refused
pub socket-past : (held new : List Message) (number : ℕ) (packet : eio.Packet) (packets rest : List eio.Packet) (fault : Option SioFault) → packets ≡ packet ∷ rest
    → Fed held (messages_of packet) new fault → ((x : SioFault) → fault ≡ Some x → ⊥)
    → refusal_to new (packet_messages (suc (number + 1)) rest) ≡ refusal_to held (packet_messages (suc number) packets)
socket-past held new number packet packets rest fault are fed none =
    let given = subst (λ (o : Option SioFault). Fed held (messages_of packet) new o) (none-of fault none) fed in
    let next : suc (number + 1) ≡ suc (suc number) = omega arith in
    ap (λ n. refusal_to new (packet_messages n rest)) next
    ∙ sym (ap (λ (ps : List eio.Packet). refusal_to held (packet_messages (suc number) ps)) are ∙ Fed-none number held (messages_of packet) new (packet_messages (suc (suc number)) rest) given)

-- the first of which one is
pub socket-first : (held new : List Message) (number : ℕ) (packet : eio.Packet) (packets rest : List eio.Packet) (found : Option SioFault) (fault : SioFault) → packets ≡ packet ∷ rest
    → Fed held (messages_of packet) new found → found ≡ Some fault
    → Some (record { refusal = Socket fault; packet = Some (number + 1) }) ≡ refusal_to held (packet_messages (suc number) packets)
socket-first held new number packet packets rest found fault are fed is =
    let given = subst (λ (o : Option SioFault). Fed held (messages_of packet) new o) is fed in
    let this : suc number ≡ number + 1 = omega arith in
    sym (
    ap (λ (ps : List eio.Packet). refusal_to held (packet_messages (suc number) ps)) are
    ∙ Fed-some number fault held (messages_of packet) new (packet_messages (suc (suc number)) rest) given
    ∙ ap (λ (n : ℕ). Some (record { refusal = Socket fault; packet = Some n })) this
    )
