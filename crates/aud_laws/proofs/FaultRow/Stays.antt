-- Rows of what a client's tap tells, where a line is kept for each record.
use Rattle.std.proofs.Common.{◌≡◌, ℕ, zero, suc, Bool, true, false, List, [], ◌∷◌, cond, refl, sym, ap, ◌∙◌, subst, Option, Some, None, is_some, slice_get}
use Rattle.std.specs.List.{AllZip, Contains}
use Rattle.std.specs.Option.{option_map, option_and_then}
use Rattle.std.proofs.lemmas.Option.{none-some, same_Some}
use Rattle.aud_tap.specs.declared.records.StreamRec.{StreamRec}
use Rattle.aud_tap.specs.declared.records.ClientRec.{ClientRec}
use Rattle.std.proofs.lemmas.Bool.{true≢false}
use Rattle.aud_tap.specs.Forms.{passing}
use Rattle.aud_node.specs.AtPosition.{is_recoverable_at, is_some_recoverable}
use Rattle.aud_node.specs.Cluster.{Cluster}
use Rattle.aud_node.specs.NodeTaps.{client_at}
use Rattle.aud_node.specs.Stream.{entry, offset_of, position}
use Rattle.aud_client.specs.AreRecordsOf.{placed_packets, GivesAt, MayGiveAt, AreRecordsOf}
use Rattle.aud_client.specs.Received.{tap_stays}
use Rattle.aud_client.specs.Replies.{ReplySeen}
use Rattle.aud_client.specs.StayPlaces.{PlacesSeen, tap_places}
use Rattle.aud_client.specs.StaySeen.{StaySeen, AskedSeen, FrameSeen, ask_of, reply_at, frame_of, frame_at, offset_in, recoverable_position}
use Rattle.aud_client.specs.TapPackets.{TapPacket, FromServer, FromClient, tap_packets}
use Rattle.aud_client.proofs.Giving.{tap_given}
use Rattle.aud_input.specs.TapLines.{TapLines}
use Rattle.aud_rows.specs.declared.row.Role.TheVariants.{Fault}
use Rattle.aud_rows.specs.ClientPlaces.{places_at, places_in}
use Rattle.aud_rows.specs.EndRows.{bad_said, bad_in, bad_at, bad_row}
use Rattle.aud_rows.specs.Marks.{open_before}
use Rattle.aud_rows.specs.Rows.{Said, said_row}
use Rattle.aud_rows.specs.Seen.{Asks, Reply, Got, NoPacket}
use Rattle.aud_rows.specs.StayRows.{stays_at, stays_in, ask_said, reply_said, frame_said, stay_said, given_by, ask_row, reply_row, frame_row}
use Rattle.aud_laws.specs.FaultRows.{KnowsEachRecord}
use Rattle.aud_laws.proofs.FaultRow.Packets.{IsInConnection, packet_is, bad_is}
use Rattle.aud_laws.proofs.FaultRow.Rows.{Marked, client_marked}

-- ---- lists, one after the other

-- where the one has an element so has the other
beside : {X Y : Type 0} (R : X → Y → Type 0) (xs : List X) (ys : List Y) → AllZip R xs ys → (k : ℕ) (y : Y) → slice_get ys k ≡ Some y
    → (x : X) × (slice_get xs k ≡ Some x) × R x y
beside R [] [] h k y at = absurd (none-some y at)
beside R [] (z ∷ ys) h k y at = absurd h
beside R (x ∷ xs) [] h k y at = absurd h
beside {X = X} {Y = Y} R (x ∷ xs) (z ∷ ys) h zero y at = (x, refl, subst (R x) (same_Some z y at) h.0)
beside R (x ∷ xs) (z ∷ ys) h (suc k) y at = beside R xs ys h.1 k y at

-- where there is something there is its record
record_given : {X : Type 0} (recs : List ClientRec) (gives : TapPacket → Option X) (n : Option ℕ) (o : Option X) (x : X) → o ≡ Some x → MayGiveAt (placed_packets recs) gives n o
    → (number : ℕ) × (n ≡ Some number) × GivesAt (placed_packets recs) gives number x
record_given recs gives n None x is h = absurd (none-some x is)
record_given recs gives None (Some y) x is h = absurd h
record_given recs gives (Some number) (Some y) x is h = (number, refl, subst (GivesAt (placed_packets recs) gives number) (same_Some y x is) h)

-- ---- the entry of a frame

entry_there : (stream : List StreamRec) (p : ℕ) → is_recoverable_at stream p ≡ true → (e : StreamRec) × (entry stream p ≡ Some e)
entry_there stream p is = go (entry stream p) refl is
  where
    go : (o : Option StreamRec) → entry stream p ≡ o → is_some_recoverable o ≡ true → (e : StreamRec) × (entry stream p ≡ Some e)
    go None at is = absurd (cc)
    go (Some e) at is = (e, at)

frame_entry : (stream : List StreamRec) (p : TapPacket) (frame : FrameSeen) → frame_of stream p ≡ Some frame → (e : StreamRec) × (entry stream frame.position ≡ Some e)
frame_entry stream (FromClient packet) frame is = absurd (none-some frame is)
frame_entry stream (FromServer whole) frame is = by_offset (offset_in whole.packet) is
  where
    by_test : (p : ℕ) (b : Bool) → is_recoverable_at stream p ≡ b → option_map (frame_at whole) (cond b (Some p) None) ≡ Some frame → (e : StreamRec) × (entry stream frame.position ≡ Some e)
    by_test p false eb is = absurd (none-some frame is)
    by_test p true eb is = subst (λ q. (e : StreamRec) × (entry stream q ≡ Some e)) (ap (λ (f : FrameSeen). f.position) (same_Some (frame_at whole p) frame is)) (entry_there stream p eb)

    by_position : (o : Option ℕ) → option_map (frame_at whole) (option_and_then (passing (is_recoverable_at stream)) o) ≡ Some frame → (e : StreamRec) × (entry stream frame.position ≡ Some e)
    by_position None is = absurd (none-some frame is)
    by_position (Some p) is = by_test p (is_recoverable_at stream p) refl is

    by_offset : (o : Option (List ℕ)) → option_map (frame_at whole) (option_and_then (recoverable_position stream) o) ≡ Some frame → (e : StreamRec) × (entry stream frame.position ≡ Some e)
    by_offset None is = absurd (none-some frame is)
    by_offset (Some off) is = by_position (position stream off) is

-- ---- what a stay gives

-- it is said, at a record where a packet of the tap stands
record IsSaid (recs : List ClientRec) (o : Option Said) : Type 0 where
  said : Said
  is : o ≡ Some said
  packet : TapPacket
  stands : Contains (placed_packets recs) (said.0, packet)

module _ (stream : List StreamRec) (recs : List ClientRec) (places : PlacesSeen) (stay : StaySeen) (are : AreRecordsOf stream (placed_packets recs) places stay) where
  ask_is_said : (asked : AskedSeen) → stay.asked ≡ Some asked → IsSaid recs (ask_said stay.c places.ask stay.asked)
  ask_is_said asked is =
      let (number, at, given) = record_given recs ask_of places.ask stay.asked asked is are.ask_is in
      record {
        said = (number, Asks stay.c asked.pid asked.offset);
        is = ap (λ n. ask_said stay.c n stay.asked) at ∙ ap (ask_said stay.c (Some number)) is;
        packet = given.packet;
        stands = given.stands;
      }

  reply_is_said : (reply : ReplySeen) → stay.reply ≡ Some reply → IsSaid recs (reply_said stay.c places.reply stay.reply)
  reply_is_said reply is =
      let (number, at, given) = record_given recs reply_at places.reply stay.reply reply is are.reply_is in
      record {
        said = (number, Reply stay.c reply.sid reply.pid);
        is = ap (λ n. reply_said stay.c n stay.reply) at ∙ ap (reply_said stay.c (Some number)) is;
        packet = given.packet;
        stands = given.stands;
      }

  frame_is_said : (i : ℕ) (frame : FrameSeen) → slice_get stay.frames i ≡ Some frame → IsSaid recs (frame_said stream stay.c (slice_get places.frames i) (slice_get stay.frames i))
  frame_is_said i frame is =
      let (number, at, given) = beside (GivesAt (placed_packets recs) (frame_of stream)) places.frames stay.frames are.frames_are i frame is in
      let (e, there) = frame_entry stream given.packet frame given.gives_it in
      record {
        said = (number, Got stay.c frame.position (offset_of e));
        is =
            ap (λ n. frame_said stream stay.c n (slice_get stay.frames i)) at
            ∙ ap (frame_said stream stay.c (Some number)) is
            ∙ ap (option_map (λ x. let said : Said = (number, Got stay.c frame.position (offset_of x)) in said)) there;
        packet = given.packet;
        stands = given.stands;
      }

-- ---- the rows

module _ (c : Cluster) (lines : List TapLines) (known : KnowsEachRecord c.taps lines) (place : ℕ) where
  -- of what is said at a record of the client's tap
  said_marked : (recs : List ClientRec) → client_at c place ≡ Some recs → (o : Option Said) → IsSaid recs o → Marked (option_and_then (said_row c lines place Fault) o)
  said_marked recs there o at =
      let it = packet_is recs (at.said.0, at.packet) at.stands in
      subst (λ s. Marked (option_and_then (said_row c lines place Fault) s)) (sym at.is) (client_marked c lines known place at.said.0 recs it.rec at.said.1 there it.there)

  -- of what a stay gives
  stay_marked : (gives : PlacesSeen → StaySeen → Option Said) (k : ℕ) (stay : StaySeen) → slice_get (stays_at c place) k ≡ Some stay
      → ((recs : List ClientRec) (places : PlacesSeen) → AreRecordsOf c.stream (placed_packets recs) places stay → IsSaid recs (gives places stay))
      → Marked (option_and_then (said_row c lines place Fault) (stay_said gives c place k))
  stay_marked gives k stay at says = go (client_at c place) refl
    where
      go : (o : Option (List ClientRec)) → client_at c place ≡ o → Marked (option_and_then (said_row c lines place Fault) (stay_said gives c place k))
      go None there = absurd (none-some stay (subst (λ o. slice_get (stays_in c.stream o) k ≡ Some stay) there at))
      go (Some recs) there =
          let (places, is, are) = beside (AreRecordsOf c.stream (placed_packets recs)) (tap_places c.stream recs) (tap_stays c.stream recs) (tap_given c.stream recs) k stay (subst (λ o. slice_get (stays_in c.stream o) k ≡ Some stay) there at) in
          let given : stay_said gives c place k ≡ gives places stay =
          ap (λ s. given_by gives (slice_get (places_at c place) k) s) at ∙ ap (λ o. given_by gives (slice_get (places_in c.stream o) k) (Some stay)) there ∙ ap (λ p. given_by gives p (Some stay)) is in
          said_marked recs there (stay_said gives c place k) (subst (IsSaid recs) (sym given) (says recs places are))

  -- of what a stay asked, of its reply, of a frame of it
  pub ask_marked : (k : ℕ) (stay : StaySeen) (asked : AskedSeen) → slice_get (stays_at c place) k ≡ Some stay → stay.asked ≡ Some asked → Marked (ask_row c lines place k Fault)
  ask_marked k stay asked at is =
      stay_marked (λ places seen. ask_said seen.c places.ask seen.asked) k stay at (λ recs places are. ask_is_said c.stream recs places stay are asked is)

  pub reply_marked : (k : ℕ) (stay : StaySeen) (reply : ReplySeen) → slice_get (stays_at c place) k ≡ Some stay → stay.reply ≡ Some reply → Marked (reply_row c lines place k Fault)
  reply_marked k stay reply at is =
      stay_marked (λ places seen. reply_said seen.c places.reply seen.reply) k stay at (λ recs places are. reply_is_said c.stream recs places stay are reply is)

  pub frame_marked : (k i : ℕ) (stay : StaySeen) (frame : FrameSeen) → slice_get (stays_at c place) k ≡ Some stay → slice_get stay.frames i ≡ Some frame
      → Marked (frame_row c lines place k i Fault)
  frame_marked k i stay frame at is =
      stay_marked (λ places seen. frame_said c.stream seen.c (slice_get places.frames i) (slice_get seen.frames i)) k stay at
      (λ recs places are. frame_is_said c.stream recs places stay are i frame is)

  -- of the first record that is no packet
  pub bad_marked : (recs : List ClientRec) (number : ℕ) → client_at c place ≡ Some recs → (tap_packets recs).bad ≡ Some number → Marked (bad_row c lines place Fault)
  bad_marked recs number there bad = go (open_before recs number) refl it.is_open
    where
      it : IsInConnection recs number
      it = bad_is recs number bad

      go : (o : Option ℕ) → open_before recs number ≡ o → is_some (open_before recs number) ≡ true → Marked (bad_row c lines place Fault)
      go None on is = absurd (true≢false (sym is ∙ ap is_some on))
      go (Some conn) on is =
          let said : bad_at c place ≡ Some (number, NoPacket conn) =
          ap bad_in there ∙ ap (option_and_then (bad_said recs)) bad ∙ ap (option_map (λ x. let s : Said = (number, NoPacket x) in s)) on in
          subst (λ s. Marked (option_and_then (said_row c lines place Fault) s)) (sym said) (client_marked c lines known place number recs it.rec (NoPacket conn) there it.there)
