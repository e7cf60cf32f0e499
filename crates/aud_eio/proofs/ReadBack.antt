-- A body written gives the packets that were written.
use Rattle.std.proofs.Common.{◌≡◌, ◌≢◌, ◌<◌, ◌==◌, ℕ, zero, suc, ◌+◌, ◌*◌, ◌/◌, ◌%◌, List, [], ◌∷◌, ◌++◌, length, map, All, replicate, slice_index, Bool, true, false, not, Ok, refl, ap, ◌∙◌, arith}
use Rattle.std.specs.List.{join_with_byte, list_all}
use Rattle.std.proofs.lemmas.List.Splits.{slice_split_none, slice_split_at}
use Rattle.std.proofs.lemmas.Bool.{and_parts, ne_eqb, not-true}
use Rattle.std.proofs.lemmas.List.Elements.{All-nil, All-cons}
use Rattle.std.proofs.lemmas.List.Folds.{list_all-append}
use Rattle.base64.specs.Rfc4648.{encode_symbols, padding_len}
use Rattle.base64.specs.GeneralPurpose.{encode_of}
use Rattle.base64.specs.Engines.{standard}
use Rattle.aud_eio.specs.declared.packet.Control.{Control as ControlType}
use Rattle.aud_eio.specs.declared.packet.Control.TheVariants.{Opening, Closing, Ping, Pong, Upgrade, Noop}
use Rattle.aud_eio.specs.declared.packet.Eio.{Eio}
use Rattle.aud_eio.specs.Packet.{Packet, Control, Message, Lent, Own, engine_view, digit_of, engine_text, delivered}
use Rattle.aud_eio.specs.Private.ReadBack.{ReadsBack}
use Rattle.aud_eio.specs.Body.{engine_packets_of, packets_of_texts, body_pieces, body_of, FitsBody}

-- the byte between two packets of a body
abbrev is_separator : ℕ → Bool
is_separator b = b == 30

-- no byte of the list is a separator
abbrev IsFree : List ℕ → Type 0
IsFree xs = list_all (λ b. not (is_separator b)) xs ≡ true

-- ---- texts without a separator

free_head : (b : ℕ) (xs : List ℕ) → IsFree (b ∷ xs) → not (is_separator b) ≡ true
free_head b xs free = (and_parts _ _ free).0

free_tail : (b : ℕ) (xs : List ℕ) → IsFree (b ∷ xs) → IsFree xs
free_tail b xs free = (and_parts _ _ free).1

-- two lists without a separator, one after the other, have none
free_append : (xs ys : List ℕ) → IsFree xs → IsFree ys → IsFree (xs ++ ys)
free_append xs ys front back = rw (list_all-append, front, back) refl

-- a byte that is no separator, however often, is none
free_replicate : (n b : ℕ) → is_separator b ≡ false → IsFree (replicate n b)
free_replicate zero b other = refl
free_replicate (suc n) b other = rw (other, free_replicate n b other) refl

-- no place of a list without a separator has one; past its end stands 0, which is none
free_at : (xs : List ℕ) (k : ℕ) → IsFree xs → not (is_separator (slice_index xs k)) ≡ true
free_at [] k free = refl
free_at (x ∷ xs) zero free = free_head x xs free
free_at (x ∷ xs) (suc k) free = free_at xs k (free_tail x xs free)

-- base64 takes its symbols from a table: where that has no separator, they have none
free_symbols : (t m : List ℕ) → IsFree t → IsFree (encode_symbols t m)
unfolding encode_symbols
free_symbols t [] free = refl
free_symbols t (a ∷ []) free = rw (free_at t (a / 4) free, free_at t (a % 4 * 16) free) refl
free_symbols t (a ∷ b ∷ []) free =
    rw (free_at t (a / 4) free, free_at t (a % 4 * 16 + b / 16) free, free_at t (b % 16 * 4) free) refl
free_symbols t (a ∷ b ∷ c ∷ rest) free =
    rw (
      free_at t (a / 4) free,
      free_at t (a % 4 * 16 + b / 16) free,
      free_at t (b % 16 * 4 + c / 64) free,
      free_at t (c % 64) free,
      free_symbols t rest free,
    ) refl

-- base64 has no separator, padding included
free_base64 : (bytes : List ℕ) → IsFree (encode_of standard bytes)
free_base64 bytes =
    free_append (encode_symbols standard.encode_table bytes) _
    (free_symbols standard.encode_table bytes refl) (free_replicate (padding_len (length bytes)) 61 refl)

-- the digit of a packet's kind is no separator
free_digit : (kind : ControlType) → is_separator (digit_of kind) ≡ false
free_digit Opening = refl
free_digit Closing = refl
free_digit Ping = refl
free_digit Pong = refl
free_digit Upgrade = refl
free_digit Noop = refl

free_from : (xs : List ℕ) → All (λ b. b ≢ 30) xs → IsFree xs
free_from [] h = refl
free_from (x ∷ xs) h =
    rw (ne_eqb x 30 (h 0 x (omega arith)), free_from xs (λ k d l. h (suc k) d (omega arith))) refl

-- the text of a packet that fits a body has no separator
free_text : (packet : Packet) → FitsBody packet → IsFree (engine_text packet)
free_text (Control kind payload) fits = rw (free_digit kind, free_from payload fits) refl
free_text (Message text) fits = free_from text fits
free_text (Lent bytes) fits = free_base64 bytes
free_text (Own bytes) fits = free_base64 bytes

other_than_separator : (xs : List ℕ) → IsFree xs → All (λ b. is_separator b ≡ false) xs
other_than_separator [] free = All-nil (λ b. is_separator b ≡ false)
other_than_separator (x ∷ xs) free =
    All-cons (λ b. is_separator b ≡ false) x xs (not-true _ (free_head x xs free)) (other_than_separator xs (free_tail x xs free))

-- ---- the pieces are the texts

-- the texts of packets, in their order
abbrev texts_of : List Eio → List (List ℕ)
texts_of packets = map engine_text (map engine_view packets)

abbrev AllFit : List Eio → Type 0
AllFit packets = All (λ packet. FitsBody (engine_view packet)) packets

-- a body of packets, cut at its separators, is their texts
pieces-body : (packet : Eio) (packets : List Eio) → AllFit (packet ∷ packets)
    → body_pieces (join_with_byte 30 (texts_of (packet ∷ packets))) ≡ texts_of (packet ∷ packets)
pieces-body packet [] fit = slice_split_none is_separator (engine_text (engine_view packet))
    (other_than_separator _ (free_text (engine_view packet) (fit 0 packet (omega arith))))
pieces-body packet (next ∷ packets) fit =
    slice_split_at is_separator (engine_text (engine_view packet)) 30 (join_with_byte 30 (texts_of (next ∷ packets)))
    (other_than_separator _ (free_text (engine_view packet) (fit 0 packet (omega arith)))) refl
    ∙ ap (λ texts. engine_text (engine_view packet) ∷ texts) (pieces-body next packets (λ k d l. fit (suc k) d (omega arith)))

-- ---- the packets are those written

-- where each text reads as its packet, they all read as the packets written
texts_read_back : (packets : List Eio) → All (λ packet. ReadsBack (engine_view packet)) packets
    → packets_of_texts (texts_of packets) ≡ Ok (map delivered (map engine_view packets))
texts_read_back [] back = refl
texts_read_back (packet ∷ packets) back =
    let first : ReadsBack (engine_view packet) = back 0 packet (omega arith) in
    rw (first, texts_read_back packets (λ k d l. back (suc k) d (omega arith))) refl

-- a body that was written reads as the packets that were written
pub body_reads_back : (packets : List Eio) → 0 < length packets → AllFit packets → All (λ packet. ReadsBack (engine_view packet)) packets
    → engine_packets_of (body_of (map engine_view packets)) ≡ Ok (map delivered (map engine_view packets))
body_reads_back [] some fit back = absurd (omega arith)
body_reads_back (packet ∷ packets) some fit back =
    ap packets_of_texts (pieces-body packet packets fit) ∙ texts_read_back (packet ∷ packets) back
