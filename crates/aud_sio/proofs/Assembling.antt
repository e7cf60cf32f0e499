-- What a packet gives that awaits attachments, message after message.
use Rattle.std.proofs.Common.{◌≡◌, ◌+◌, ℕ, suc, nat_lt, nat_le, List, [], ◌∷◌, ◌++◌, length, map, Ok, Err, refl, sym, ap, ◌∙◌, arith, zero-add, inl, inr}
use Rattle.std.proofs.lemmas.Bool.{le-leb, lt-leb, cases_lt, lt-ltb, le-ltb}
use Rattle.std.proofs.lemmas.List.{append_assoc, append-nil}
use Rattle.aud_sio.specs.declared.fault.SioFault.TheVariants.{TextWhileBinary}
use Rattle.aud_sio.specs.Packet.{PacketSeen, packet_of}
use Rattle.aud_sio.specs.Message.{Blob, Message, Text, Bytes, at}
use Rattle.aud_sio.specs.Wholes.{WholeSeen, Answer, leading_bytes, wholes_of}
use Rattle.aud_sio.specs.Assembly.{wholes_after}
use Rattle.aud_sio.specs.Private.Awaited.{gives_with}

-- a packet with attachments in front of others
abbrev pub with_bin : WholeSeen → List Blob → WholeSeen
with_bin w more = record w { bin = w.bin ++ more }

same_le : (a b : ℕ) → nat_le (suc a) (suc b) ≡ nat_le a b
same_le a b = elim (cases_lt b a) [ inl h ↦ lt-leb (suc a) (suc b) (omega arith) ∙ sym (lt-leb a b h) | inr h ↦ le-leb (suc a) (suc b) (omega arith) ∙ sym (le-leb a b h) ]

same_lt : (a b : ℕ) → nat_lt (suc a) (suc b) ≡ nat_lt a b
same_lt a b = elim (cases_lt a b) [ inl h ↦ lt-ltb (suc a) (suc b) (omega arith) ∙ sym (lt-ltb a b h) | inr h ↦ le-ltb (suc a) (suc b) (omega arith) ∙ sym (le-ltb a b h) ]

-- a packet that awaits nothing is whole at once
none_awaited : (place : ℕ) (w : WholeSeen) (l : List (ℕ × Message)) → gives_with place w 0 l ≡ (place, Ok w) ∷ wholes_of l
none_awaited place w l = rw (le-leb 0 (length (leading_bytes l)) (omega arith), append-nil) refl

-- one attachment more
pub one_attached : (before place : ℕ) (w : WholeSeen) (count : ℕ) (b : Blob) (l : List (ℕ × Message))
    → gives_with before w (suc count) ((place, Bytes b) ∷ l) ≡ gives_with place (with_bin w (b ∷ [])) count l
one_attached before place w count b l =
    let came = length (leading_bytes l) in
    elim (cases_lt came count) [
      | inl few ↦ rw (same_le count came, same_lt came (length l), lt-leb count came few) refl
      | inr all ↦ rw (same_le count came, le-leb count came all) (simp append_assoc refl)
    ]

-- a text among the attachments
pub text_among : (before place : ℕ) (w : WholeSeen) (count : ℕ) (text : List ℕ) (l : List (ℕ × Message))
    → gives_with before w (suc count) ((place, Text text) ∷ l) ≡ (place, Err TextWhileBinary) ∷ wholes_of l
text_among before place w count text l = rw (lt-leb (suc count) 0 (omega arith), lt-ltb 0 (suc (length l)) (omega arith)) refl

-- the list ends before they are all there
pub ends_early : (place : ℕ) (w : WholeSeen) (count : ℕ) → gives_with place w (suc count) [] ≡ []
ends_early place w count = rw (lt-leb (suc count) 0 (omega arith)) refl

-- attachments that come one after another count down what is awaited, and stand in their order
many_attached : (place : ℕ) (w : WholeSeen) (blobs : List Blob) (count : ℕ) (l : List (ℕ × Message))
    → gives_with place w (length blobs + count) (at place (map Bytes blobs) ++ l) ≡ gives_with place (with_bin w blobs) count l
many_attached place w [] count l = rw (zero-add, append-nil) refl
many_attached place w (b ∷ blobs) count l =
    let more : suc (length blobs) + count ≡ suc (length blobs + count) = omega arith in
    ap (λ n. gives_with place w n (at place (map Bytes (b ∷ blobs)) ++ l)) more
    ∙ one_attached place place w (length blobs + count) b (at place (map Bytes blobs) ++ l)
    ∙ many_attached place (with_bin w (b ∷ [])) blobs count l
    ∙ ap (λ bin. gives_with place (record w { bin = bin }) count l) (append_assoc w.bin (b ∷ []) blobs)

-- a text at rest
pub text_first : (place : ℕ) (text : List ℕ) (packet : PacketSeen) (l : List (ℕ × Message)) → packet_of text ≡ Ok packet
    → wholes_of ((place, Text text) ∷ l) ≡ gives_with place (record { text = text; packet = packet; bin = [] }) packet.attachments l
text_first place text packet l reads =
    ap (λ r. elim r as (λ _. List (ℕ × Answer)) [
      | Ok p ↦ gives_with place (record { text = text; packet = p; bin = [] }) p.attachments l
      | Err fault ↦ (place, Err fault) ∷ wholes_of l
    ]) reads

-- a text at rest whose packet awaits nothing
pub text_alone : (place : ℕ) (text : List ℕ) (packet : PacketSeen) (l : List (ℕ × Message)) → packet_of text ≡ Ok packet → packet.attachments ≡ 0
    → wholes_of ((place, Text text) ∷ l) ≡ (place, Ok (record { text = text; packet = packet; bin = [] })) ∷ wholes_of l
text_alone place text packet l reads alone =
    let w : WholeSeen = record { text = text; packet = packet; bin = [] } in
    text_first place text packet l reads ∙ ap (λ n. gives_with place w n l) alone ∙ none_awaited place w l

-- the place of the messages that came before doesn't matter, where more are awaited
pub any_place : (before after : ℕ) (w : WholeSeen) (count : ℕ) (l : List (ℕ × Message))
    → gives_with before w (suc count) l ≡ gives_with after w (suc count) l
any_place before after w count [] = ends_early before w count ∙ sym (ends_early after w count)
any_place before after w count ((place, Text text) ∷ l) =
    text_among before place w count text l ∙ sym (text_among after place w count text l)
any_place before after w count ((place, Bytes b) ∷ l) =
    one_attached before place w count b l ∙ sym (one_attached after place w count b l)

-- the messages of a packet that has some of its attachments, and more messages
pub held : (text : List ℕ) (packet : PacketSeen) (blobs : List Blob) (count : ℕ) (l : List (ℕ × Message))
    → packet_of text ≡ Ok packet → packet.attachments ≡ length blobs + count
    → wholes_after (Text text ∷ map Bytes blobs) l ≡ gives_with 0 (record { text = text; packet = packet; bin = blobs }) count l
held text packet blobs count l reads awaits =
    let later = at 0 (map Bytes blobs) ++ l in
    let w : WholeSeen = record { text = text; packet = packet; bin = [] } in
    text_first 0 text packet later reads ∙ ap (λ n. gives_with 0 w n later) awaits ∙ many_attached 0 w blobs count l
