-- The connections of a tap, record after record.
use Rattle.std.proofs.Common.{◌≡◌, ◌+◌, ℕ, suc, List, [], ◌∷◌, ◌++◌, map, flat_map, refl, sym, ap, ◌∙◌, Option, Some, None, append-nil, append_assoc, drop, length, length-append, ◌≤◌, arith}
use Rattle.aud_base.proofs.Options.{or_none}
use Rattle.aud_tap.specs.declared.records.StreamRec.{StreamRec}
use Rattle.aud_tap.specs.declared.records.ClientRec.{ClientRec}
use Rattle.aud_tap.specs.declared.records.ClientRec.TheVariants.{Conn, TextIn, BytesIn, Poll, TextOut, Lost}
use Rattle.aud_sio.specs.Wholes.{wholes_of}
use Rattle.std.specs.List.{filter}
use Rattle.aud_client.specs.TapPackets.{TapPacket, Connection, numbered_records, until_end, connections_in, messages_at, answers_in, packets_at, packets_in, tap_packets, is_bad, bad_in, first_of}
use Rattle.aud_client.specs.Private.ConnectionRead.{HasGiven, inside}
use Rattle.aud_client.specs.Private.ClientRead.{begun, bad_of, cut_seen}
use Rattle.aud_client.specs.StaySeen.{StaySeen, stay_of}
use Rattle.aud_client.specs.Stays.{stays}
use Rattle.aud_client.specs.PlacedStays.{forgotten, placed_stays}
use Rattle.aud_client.specs.StayPlaces.{PlacesSeen, places_of, places_in, tap_places}
use Rattle.aud_client.specs.Received.{stays_of, tap_stays}
use Rattle.std.specs.Option.{option_or}
use Rattle.std.proofs.lemmas.List.{map-append, drop_all, length-map}
use Rattle.std.proofs.lemmas.Grind.{flat_map-append}
use Rattle.aud_client.specs.declared.connection.Reader.{Reader}
use Rattle.aud_client.proofs.Forgetting.{forgotten-stays}

-- what stands before the next end
pub until_end-numbered : (n : ℕ) (recs : List ClientRec) → until_end (numbered_records n recs) ≡ numbered_records n (inside recs)
until_end-numbered n [] = refl
until_end-numbered n (Conn c ∷ recs) = refl
until_end-numbered n (Lost ∷ recs) = refl
until_end-numbered n (TextIn t ∷ recs) = ap (λ r. (n, TextIn t) ∷ r) (until_end-numbered (suc n) recs)
until_end-numbered n (BytesIn b ∷ recs) = ap (λ r. (n, BytesIn b) ∷ r) (until_end-numbered (suc n) recs)
until_end-numbered n (Poll t ∷ recs) = ap (λ r. (n, Poll t) ∷ r) (until_end-numbered (suc n) recs)
until_end-numbered n (TextOut t ∷ recs) = ap (λ r. (n, TextOut t) ∷ r) (until_end-numbered (suc n) recs)

-- one record more in front
pub connections_in-cons : (n : ℕ) (rec : ClientRec) (recs : List ClientRec) → connections_in (numbered_records n (rec ∷ recs)) ≡ begun n rec recs ++ connections_in (numbered_records (suc n) recs)
connections_in-cons n (Conn c) recs = ap (λ r. (c, r) ∷ connections_in (numbered_records (suc n) recs)) (until_end-numbered (suc n) recs)
connections_in-cons n Lost recs = refl
connections_in-cons n (TextIn t) recs = refl
connections_in-cons n (BytesIn b) recs = refl
connections_in-cons n (Poll t) recs = refl
connections_in-cons n (TextOut t) recs = refl

-- all that a connection gives
answers-given : (first : ℕ) (recs : List ClientRec) (packets : List (ℕ × TapPacket)) (reader : Reader) (h : HasGiven first recs packets reader) → answers_in (numbered_records first recs) ≡ h.answers
answers-given first recs packets reader h =
    ap wholes_of (sym (append-nil (flat_map messages_at (numbered_records first recs)))) ∙ h.continues [] ∙ ap (λ r. h.answers ++ r) h.waits ∙ append-nil h.answers

-- the packets of a connection that was read
pub packets-given : (first : ℕ) (recs : List ClientRec) (packets : List (ℕ × TapPacket)) (reader : Reader) → HasGiven first recs packets reader → packets ≡ packets_in (numbered_records first recs)
packets-given first recs packets reader h =
    h.packets_are ∙ ap (λ xs. flat_map (packets_at xs) (numbered_records first recs)) (sym (answers-given first recs packets reader h))

-- its first bad record
pub bad-given : (first : ℕ) (recs : List ClientRec) (packets : List (ℕ × TapPacket)) (reader : Reader) → HasGiven first recs packets reader → reader.bad ≡ first_of (bad_in (numbered_records first recs))
bad-given first recs packets reader h =
    h.bad_is ∙ ap (λ xs. first_of (map (λ (rec : ℕ × ClientRec). rec.0) (filter (is_bad xs) (numbered_records first recs)))) (sym (answers-given first recs packets reader h))

-- the first of two lists
pub first_of-append : (xs ys : List ℕ) → first_of (xs ++ ys) ≡ option_or (first_of xs) (first_of ys)
first_of-append [] ys = refl
first_of-append (x ∷ xs) ys = refl

bad_of-append : (xs ys : List (ℕ × List (ℕ × ClientRec))) → bad_of (xs ++ ys) ≡ option_or (bad_of xs) (bad_of ys)
bad_of-append xs ys = ap first_of (flat_map-append (λ (cut : ℕ × List (ℕ × ClientRec)). bad_in cut.1) xs ys) ∙ first_of-append (flat_map (λ (cut : ℕ × List (ℕ × ClientRec)). bad_in cut.1) xs) (flat_map (λ (cut : ℕ × List (ℕ × ClientRec)). bad_in cut.1) ys)

option_or_assoc : (a b c : Option ℕ) → option_or (option_or a b) c ≡ option_or a (option_or b c)
option_or_assoc None b c = refl
option_or_assoc (Some n) b c = refl

-- what was read of the first records, and what the others give
pub record HasTaken (recs : List ClientRec) (i : ℕ) (seen : List Connection) (bad : Option ℕ) : Type 0 where
  pub connections_are : seen ++ map cut_seen (connections_in (numbered_records i (drop i recs))) ≡ map cut_seen (connections_in (numbered_records 0 recs))
  pub bad_is : option_or bad (bad_of (connections_in (numbered_records i (drop i recs)))) ≡ bad_of (connections_in (numbered_records 0 recs))

-- one record more was taken
pub HasTaken-more : (recs : List ClientRec) (i : ℕ) (rec : ClientRec) (seen after : List Connection) (bad first : Option ℕ) → drop i recs ≡ rec ∷ drop (i + 1) recs
    → after ≡ seen ++ map cut_seen (begun i rec (drop (i + 1) recs)) → first ≡ option_or bad (bad_of (begun i rec (drop (i + 1) recs)))
    → HasTaken recs i seen bad → HasTaken recs (i + 1) after first
HasTaken-more recs i rec seen after bad first front seen_is bad_is held =
    let next : i + 1 ≡ suc i = omega arith in
    let rest = drop (i + 1) recs in
    let begins = begun i rec rest in
    let later = connections_in (numbered_records (suc i) rest) in
    let all : connections_in (numbered_records i (drop i recs)) ≡ begins ++ later = ap (λ r. connections_in (numbered_records i r)) front ∙ connections_in-cons i rec rest in
    record {
      connections_are =
          cc (append_assoc seen (map cut_seen begins) (map cut_seen later), map-append cut_seen begins later);
      bad_is =
          cc (option_or_assoc bad (bad_of begins) (bad_of later), bad_of-append begins later);
    }

-- all records were taken
pub HasTaken-all : (recs : List ClientRec) (i : ℕ) (seen : List Connection) (bad : Option ℕ) → length recs ≤ i → HasTaken recs i seen bad
    → (seen ≡ map cut_seen (connections_in (numbered_records 0 recs))) × (bad ≡ bad_of (connections_in (numbered_records 0 recs)))
HasTaken-all recs i seen bad end held =
    let none : drop i recs ≡ [] = drop_all i recs end in (
      sym (append-nil seen) ∙ sym (ap (λ r. seen ++ map cut_seen (connections_in (numbered_records i r))) none) ∙ held.connections_are,
      sym (or_none bad) ∙ sym (ap (λ r. option_or bad (bad_of (connections_in (numbered_records i r)))) none) ∙ held.bad_is,
    )

-- what the first records tell: their stays with their records, and the first bad one
pub record HasTold (stream : List StreamRec) (recs : List ClientRec) (i : ℕ) (stays : List StaySeen) (places : List PlacesSeen) (bad : Option ℕ) : Type 0 where
  pub seen : List Connection
  pub taken : HasTaken recs i seen bad
  pub stays_are : stays ≡ flat_map (stays_of stream) seen
  pub places_are : places ≡ flat_map (places_in stream) seen

-- there are as many records as stays
as_many_in : (stream : List StreamRec) (connection : Connection) → length (places_in stream connection) ≡ length (stays_of stream connection)
as_many_in stream connection =
    length-map (placed_stays connection.packets) (places_of stream) ∙ sym (length-map (placed_stays connection.packets) forgotten)
    ∙ ap length (forgotten-stays connection.packets) ∙ sym (length-map (stays (forgotten connection.packets)) (stay_of stream connection.c))

as_many_seen : (stream : List StreamRec) (seen : List Connection) → length (flat_map (places_in stream) seen) ≡ length (flat_map (stays_of stream) seen)
as_many_seen stream [] = refl
as_many_seen stream (connection ∷ seen) =
    length-append (places_in stream connection) (flat_map (places_in stream) seen)
    ∙ ap (λ k. length (places_in stream connection) + k) (as_many_seen stream seen) ∙ ap (λ k. k + length (flat_map (stays_of stream) seen)) (as_many_in stream connection)
    ∙ sym (length-append (stays_of stream connection) (flat_map (stays_of stream) seen))

pub HasTold-as_many : (stream : List StreamRec) (recs : List ClientRec) (i : ℕ) (stays : List StaySeen) (places : List PlacesSeen) (bad : Option ℕ)
    → HasTold stream recs i stays places bad → length places ≡ length stays
HasTold-as_many stream recs i stays places bad held = ap length held.places_are ∙ as_many_seen stream held.seen ∙ sym (ap length held.stays_are)

-- no record
pub HasTold-none : (stream : List StreamRec) (recs : List ClientRec) (stays : List StaySeen) (places : List PlacesSeen) → stays ≡ [] → places ≡ [] → HasTold stream recs 0 stays places None
HasTold-none stream recs stays places none no_places =
    record { seen = []; taken = record { connections_are = refl; bad_is = refl }; stays_are = none; places_are = no_places }

-- one record more was taken
pub HasTold-more : (stream : List StreamRec) (recs : List ClientRec) (i : ℕ) (rec : ClientRec) (stays after : List StaySeen) (places later : List PlacesSeen) (bad first : Option ℕ)
    → drop i recs ≡ rec ∷ drop (i + 1) recs
    → after ≡ stays ++ flat_map (stays_of stream) (map cut_seen (begun i rec (drop (i + 1) recs)))
    → later ≡ places ++ flat_map (places_in stream) (map cut_seen (begun i rec (drop (i + 1) recs)))
    → first ≡ option_or bad (bad_of (begun i rec (drop (i + 1) recs)))
    → HasTold stream recs i stays places bad → HasTold stream recs (i + 1) after later first
HasTold-more stream recs i rec stays after places later bad first front after_is later_is bad_is held =
    let begins = map cut_seen (begun i rec (drop (i + 1) recs)) in
    record {
      seen = held.seen ++ begins;
      taken = HasTaken-more recs i rec held.seen (held.seen ++ begins) bad first front refl bad_is held.taken;
      stays_are = after_is ∙ ap (λ ss. ss ++ flat_map (stays_of stream) begins) held.stays_are ∙ sym (flat_map-append (stays_of stream) held.seen begins);
      places_are = later_is ∙ ap (λ ps. ps ++ flat_map (places_in stream) begins) held.places_are ∙ sym (flat_map-append (places_in stream) held.seen begins);
    }

-- all records were taken
pub HasTold-all : (stream : List StreamRec) (recs : List ClientRec) (i : ℕ) (stays : List StaySeen) (places : List PlacesSeen) (bad : Option ℕ) → length recs ≤ i
    → HasTold stream recs i stays places bad → (stays ≡ tap_stays stream recs) × (places ≡ tap_places stream recs) × (bad ≡ (tap_packets recs).bad)
HasTold-all stream recs i stays places bad end held =
    let all = HasTaken-all recs i held.seen bad end held.taken in
    (held.stays_are ∙ ap (flat_map (stays_of stream)) all.0, held.places_are ∙ ap (flat_map (places_in stream)) all.0, all.1)
