-- A connection's records that went into the stays, with one more at the end.
use Rattle.std.proofs.Common.{◌≡◌, ◌+◌, ℕ, List, [], ◌∷◌, ◌++◌, length, map, ap, ◌∙◌, sym, subst, None, true, Ok}
use Rattle.aud_tap.specs.declared.records.StreamRec.{StreamRec}
use Rattle.aud_tap.specs.declared.records.ClientRec.{ClientRec}
use Rattle.aud_tap.specs.declared.records.ClientRec.TheVariants.{TextIn}
use Rattle.aud_tap.specs.declared.records.Event.{Event}
use Rattle.aud_node.specs.Known.{is_sent_alone, spelled}
use Rattle.aud_sio.specs.Assembly.{wholes_after}
use Rattle.aud_sio.specs.Wholes.{Answer}
use Rattle.aud_sio.specs.Message.{at}
use Rattle.aud_client.specs.TapPackets.{FromServer, messages_at, numbered_records, packets_at}
use Rattle.aud_client.specs.Seen.{placed_seen}
use Rattle.aud_client.specs.StaySeen.{StaySeen, stay_of}
use Rattle.aud_client.specs.Stays.{stays}
use Rattle.aud_client.specs.PlacedStays.{forgotten, placed_stays}
use Rattle.aud_client.specs.StayPlaces.{PlacesSeen, places_of, places_in}
use Rattle.aud_client.specs.Received.{stays_of}
use Rattle.aud_client.specs.declared.connection.Placed.{Placed}
use Rattle.aud_client.specs.declared.connection.Reader.{Reader}
use Rattle.aud_client.specs.declared.stays.Stays.{Stays}
use Rattle.aud_client.specs.Private.ConnectionRead.{HasGiven, ReadsRecord, bad_or, packets_read}
use Rattle.aud_client.specs.Private.ClientRead.{cut_seen}
use Rattle.aud_client.specs.Private.Kept.{Keeps}
use Rattle.aud_client.specs.Private.Told.{HasKept}
use Rattle.aud_client.proofs.ConnectionLemmas.{HasGiven-by, HasGiven-more, HasGiven-same, HasRead-none}
use Rattle.aud_client.proofs.KnownLemmas.{known_continues}
use Rattle.aud_client.proofs.ReadLemmas.{bad_or-false, received-at, refused-at}
use Rattle.aud_client.proofs.ClientLemmas.{packets-given}

-- no record
pub HasKept-none : (stream : List StreamRec) (c first : ℕ) (done : List StaySeen) (told : List PlacesSeen) (reader : Reader) (st : Stays) → reader.assembler ≡ [] → packets_read reader ≡ [] → reader.bad ≡ None
    → Keeps stream c st done told [] → HasKept stream c first done told [] reader st
HasKept-none stream c first done told reader st rest held bad keeps =
    record {
      packets = [];
      given = subst (λ packets. HasGiven first [] packets reader) held (HasRead-none first reader rest held bad);
      held = held;
      keeps = keeps;
    }

-- one record more, whose packets went into the stays
pub HasKept-more : (stream : List StreamRec) (c first : ℕ) (done : List StaySeen) (told : List PlacesSeen) (recs : List ClientRec) (rec : ClientRec) (old read new : Reader) (packets : List Placed) (was now : Stays)
    → (h : HasKept stream c first done told recs old was) → ReadsRecord (first + length recs) rec old read → map placed_seen packets ≡ packets_read read
    → packets_read new ≡ [] → new.assembler ≡ read.assembler → new.bad ≡ read.bad
    → Keeps stream c now done told (h.packets ++ map placed_seen packets) → HasKept stream c first done told (recs ++ rec ∷ []) new now
HasKept-more stream c first done told recs rec old read new packets was now h more taken held assembler bad keeps =
    let n = first + length recs in
    let all = h.packets ++ packets_read read in
    let all_is : all ≡ h.packets ++ packets_at (at n more.answers) (n, rec) =
    ap (λ ps. h.packets ++ ps) (more.packets_are ∙ ap (λ ps. ps ++ packets_at (at n more.answers) (n, rec)) h.held) in
    record {
      packets = all;
      given = HasGiven-same first (recs ++ rec ∷ []) all read new assembler bad (HasGiven-more first recs rec h.packets all old read h.given more all_is);
      held = held;
      keeps = subst (Keeps stream c now done told) (ap (λ ps. h.packets ++ ps) taken) keeps;
    }

-- one record more, of which this event is known, while no attachment is awaited
pub HasKept-known : (stream : List StreamRec) (c first : ℕ) (done : List StaySeen) (told : List PlacesSeen) (recs : List ClientRec) (rec : ClientRec) (event : Event) (reader : Reader) (was now : Stays)
    → is_sent_alone event ≡ true → (h : HasKept stream c first done told recs reader was) → reader.assembler ≡ [] → rec ≡ TextIn (52 ∷ event.text)
    → Keeps stream c now done told (h.packets ++ (first + length recs, FromServer (spelled event.text)) ∷ []) → HasKept stream c first done told (recs ++ rec ∷ []) reader now
HasKept-known stream c first done told recs rec event reader was now alone h rest is keeps =
    let n = first + length recs in
    let given : Answer = Ok (spelled event.text) in
    let answers = given ∷ [] in
    let of_text = TextIn (52 ∷ event.text) in
    let all = h.packets ++ (n, FromServer (spelled event.text)) ∷ [] in
    let kept : HasGiven first (recs ++ of_text ∷ []) all reader =
    HasGiven-by first recs of_text h.packets all reader reader answers h.given
    (λ l. ap (λ held. wholes_after held (messages_at (n, of_text) ++ l)) rest ∙ known_continues event alone n l ∙ ap (λ held. at n answers ++ wholes_after held l) (sym rest))
    (sym (bad_or-false reader.bad n) ∙ ap (bad_or reader.bad n) (sym (refused-at n answers)))
    (λ w. w)
    (ap (λ ps. h.packets ++ at n ps) (sym (received-at n answers))) in
    record {
      packets = all;
      given = subst (λ (r : ClientRec). HasGiven first (recs ++ r ∷ []) all reader) (sym is) kept;
      held = h.held;
      keeps = keeps;
    }

-- the stays of all records of the connection
pub HasKept-all : (stream : List StreamRec) (c first : ℕ) (done : List StaySeen) (told : List PlacesSeen) (recs : List ClientRec) (reader : Reader) (st : Stays)
    → HasKept stream c first done told recs reader st → st.stays.items ≡ done ++ stays_of stream (cut_seen (c, numbered_records first recs))
HasKept-all stream c first done told recs reader st h =
    h.keeps.keeps_stays.stays_are ∙ ap (λ packets. done ++ map (stay_of stream c) (stays (forgotten packets))) (packets-given first recs h.packets reader h.given)

-- their records
pub HasKept-places : (stream : List StreamRec) (c first : ℕ) (done : List StaySeen) (told : List PlacesSeen) (recs : List ClientRec) (reader : Reader) (st : Stays)
    → HasKept stream c first done told recs reader st → st.places.items ≡ told ++ places_in stream (cut_seen (c, numbered_records first recs))
HasKept-places stream c first done told recs reader st h =
    h.keeps.places_are ∙ ap (λ packets. told ++ map (places_of stream) (placed_stays packets)) (packets-given first recs h.packets reader h.given)
