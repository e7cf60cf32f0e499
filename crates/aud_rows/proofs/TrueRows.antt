-- Rows that are made of records are true.
use Rattle.std.proofs.Common.{◌≡◌, ℕ, List, [], refl, sym, ap, ◌∙◌, subst, Option, Some, None, IfSome, slice_get}
use Rattle.std.specs.List.{AllZip}
use Rattle.std.specs.Option.{option_map, option_and_then}
use Rattle.aud_node.specs.Stream.{entry, offset_of}
use Rattle.aud_tap.specs.declared.records.StreamRec.{StreamRec}
use Rattle.aud_tap.specs.declared.taps.Tap.{Tap}
use Rattle.aud_tap.specs.declared.taps.Records.{Records}
use Rattle.aud_tap.specs.declared.taps.Records.TheVariants.{Stream, Node, Client}
use Rattle.aud_node.specs.Cluster.{Cluster, log_at, node_recs, node_log}
use Rattle.aud_tap.specs.declared.records.ClientRec.{ClientRec}
use Rattle.aud_node.specs.NodeTaps.{client_at, client_recs, client_records}
use Rattle.aud_client.specs.Replies.{ReplySeen}
use Rattle.aud_client.specs.StaySeen.{StaySeen, AskedSeen, FrameSeen, ask_of, reply_at, frame_of}
use Rattle.aud_client.specs.StayPlaces.{PlacesSeen}
use Rattle.aud_input.specs.TapLines.{TapLines, kept_line}
use Rattle.aud_rows.specs.declared.row.Row.{Row}
use Rattle.aud_rows.specs.declared.row.Role.{Role}
use Rattle.aud_rows.specs.Seen.{SaysSeen, RowSeen, Asks, Reply, Got, row_seen}
use Rattle.aud_rows.specs.NodeSays.{node_says_at, session_at}
use Rattle.aud_rows.specs.StreamSays.{stream_says_at}
use Rattle.aud_rows.specs.TrueRow.{RecordSays, IsTrueRow}
use Rattle.aud_rows.specs.ClientSays.{GivesIn, Gets, ClientSays}
use Rattle.aud_rows.specs.Rows.{Said, row_of, stream_recs}
use Rattle.aud_rows.specs.ClientPlaces.{places_in, places_at}
use Rattle.aud_rows.specs.StayRows.{ask_said, reply_said, frame_said, stays_in, stays_at, given_by, asked_at, replied_at, got_at}
use Rattle.aud_rows.proofs.Stays.{MayGive, Tells, tap_tells, zip_at}

-- the record with this number in the tap at this place, if there is that tap, says this
abbrev pub SaysAt : Cluster → ℕ → ℕ → SaysSeen → Type 0
SaysAt c place number says = (tap : Tap) → slice_get c.taps place ≡ Some tap → RecordSays c.stream tap.records number says

-- a row of what a record says is true
pub row_is_true : (c : Cluster) (lines : List TapLines) (place number : ℕ) (role : Role) (says : SaysSeen) (r : Option Row)
    → option_map row_seen r ≡ row_of c lines place number role says → SaysAt c place number says → IfSome r (IsTrueRow c lines)
row_is_true c lines place number role says None e h = tt
row_is_true c lines place number role says (Some row) e h = go (slice_get c.taps place) refl (kept_line lines place number) refl e
  where
    go : (t : Option Tap) → slice_get c.taps place ≡ t → (l : Option ℕ) → kept_line lines place number ≡ l
        → Some (row_seen row) ≡ option_and_then (λ (tap : Tap). option_map (λ line. record { line = line; tap = tap.name; session = session_at tap.records number; says = says; role = role }) l) t
        → IsTrueRow c lines row
    go None et l el e = absurd (cc)
    go (Some tap) et None el e = absurd (cc)
    go (Some tap) et (Some line) el e =
        let seen : row_seen row ≡ record { line = line; tap = tap.name; session = session_at tap.records number; says = says; role = role } = cc in
        record {
          place = place;
          number = number;
          tap = tap;
          is_there = et;
          is_named = ap (λ (x : RowSeen). x.tap) seen;
          stands = el ∙ ap (λ (x : RowSeen). Some x.line) (sym seen);
          is_of = ap (λ (x : RowSeen). x.session) seen;
          says_it = subst (RecordSays c.stream tap.records number) (ap (λ (x : RowSeen). x.says) (sym seen)) (h tap et);
        }

-- what a node's record says
pub node_says_it : (c : Cluster) (place number : ℕ) (says : SaysSeen) → node_says_at c.stream (node_log c place) number ≡ Some says → SaysAt c place number says
node_says_it c place number says e tap there =
    go tap.records (subst (λ t. node_says_at c.stream (node_recs (option_map (λ (tap : Tap). tap.records) t)) number ≡ Some says) there e)
  where
    go : (r : Records) → node_says_at c.stream (node_recs (Some r)) number ≡ Some says → RecordSays c.stream r number says
    go (Stream recs) e = absurd (cc)
    go (Node recs) e = e
    go (Client recs) e = absurd (cc)

-- what an entry says
pub entry_says_it : (c : Cluster) (place number : ℕ) (says : SaysSeen) → stream_says_at (stream_recs (log_at c place)) number ≡ Some says → SaysAt c place number says
entry_says_it c place number says e tap there =
    go tap.records (subst (λ t. stream_says_at (stream_recs (option_map (λ (tap : Tap). tap.records) t)) number ≡ Some says) there e)
  where
    go : (r : Records) → stream_says_at (stream_recs (Some r)) number ≡ Some says → RecordSays c.stream r number says
    go (Stream recs) e = e
    go (Node recs) e = absurd (cc)
    go (Client recs) e = absurd (cc)

-- ---- what a stay's records say

no_element : {X : Type 0} (k : ℕ) (x : X) → slice_get {X = X} [] k ≡ Some x → ⊥
no_element k x e = cc

module _ (c : Cluster) (place k : ℕ) (places : PlacesSeen) (stay : StaySeen) where
  -- of the stay's tap
  in_its_tap : slice_get (places_at c place) k ≡ Some places → slice_get (stays_at c place) k ≡ Some stay
      → (number : ℕ) (says : SaysSeen) → ((recs : List ClientRec) → Tells c.stream recs places stay → ClientSays c.stream recs number says) → SaysAt c place number says
  in_its_tap pe se number says h tap there = go tap.records (ap (places_in c.stream) at) (ap (stays_in c.stream) at)
    where
      at : client_at c place ≡ client_records tap.records
      at = ap (option_and_then client_recs) there

      go : (r : Records) → places_at c place ≡ places_in c.stream (client_records r) → stays_at c place ≡ stays_in c.stream (client_records r) → RecordSays c.stream r number says
      go (Stream recs) p s = absurd (no_element k places (subst (λ l. slice_get l k ≡ Some places) p pe))
      go (Node recs) p s = absurd (no_element k places (subst (λ l. slice_get l k ≡ Some places) p pe))
      go (Client recs) p s =
          h recs (zip_at (Tells c.stream recs) _ _ (tap_tells c.stream recs) k places stay (subst (λ l. slice_get l k ≡ Some places) p pe) (subst (λ l. slice_get l k ≡ Some stay) s se))

  module _ (recs : List ClientRec) where
    -- its ask
    ask_says : (n : Option ℕ) (a : Option AskedSeen) → MayGive (GivesIn recs ask_of stay.c) n a → (said : Said) → ask_said stay.c n a ≡ Some said → ClientSays c.stream recs said.0 said.1
    ask_says None a h said e = absurd (cc)
    ask_says (Some number) None h said e = absurd (cc)
    ask_says (Some number) (Some asked) h said e =
        let same : (number, Asks stay.c asked.pid asked.offset) ≡ said = cc in
        subst (λ (x : Said). ClientSays c.stream recs x.0 x.1) same h

    -- its reply
    reply_says : (n : Option ℕ) (a : Option ReplySeen) → MayGive (GivesIn recs reply_at stay.c) n a → (said : Said) → reply_said stay.c n a ≡ Some said → ClientSays c.stream recs said.0 said.1
    reply_says None a h said e = absurd (cc)
    reply_says (Some number) None h said e = absurd (cc)
    reply_says (Some number) (Some reply) h said e =
        let same : (number, Reply stay.c reply.sid reply.pid) ≡ said = cc in
        subst (λ (x : Said). ClientSays c.stream recs x.0 x.1) same h

    -- a frame of it
    got_says : (number : ℕ) (frame : FrameSeen) → GivesIn recs (frame_of c.stream) stay.c number frame
        → (at : Option StreamRec) → entry c.stream frame.position ≡ at → (said : Said) → option_map (λ e. (number, Got stay.c frame.position (offset_of e))) at ≡ Some said
        → ClientSays c.stream recs said.0 said.1
    got_says number frame h None ea said e = absurd (cc)
    got_says number frame h (Some at) ea said e =
        let same : (number, Got stay.c frame.position (offset_of at)) ≡ said = cc in
        let gets : Gets c.stream recs stay.c number frame.position (offset_of at) = record { frame = frame; gives_it = h; is_of = refl; has_offset = ap (option_map offset_of) ea } in
        subst (λ (x : Said). ClientSays c.stream recs x.0 x.1) same gets

    frame_says : (i : ℕ) → AllZip (GivesIn recs (frame_of c.stream) stay.c) places.frames stay.frames → (n : Option ℕ) → slice_get places.frames i ≡ n → (f : Option FrameSeen) → slice_get stay.frames i ≡ f
        → (said : Said) → frame_said c.stream stay.c n f ≡ Some said → ClientSays c.stream recs said.0 said.1
    frame_says i h None en f ef said e = absurd (cc)
    frame_says i h (Some number) en None ef said e = absurd (cc)
    frame_says i h (Some number) en (Some frame) ef said e =
        got_says number frame (zip_at (GivesIn recs (frame_of c.stream) stay.c) places.frames stay.frames h i number frame en ef) (entry c.stream frame.position) refl said e

module _ (c : Cluster) (place k : ℕ) where
  -- what a stay gives is said at its record
  stay_says_it : (gives : PlacesSeen → StaySeen → Option Said)
      → ((places : PlacesSeen) (stay : StaySeen) (recs : List ClientRec) → Tells c.stream recs places stay → (said : Said) → gives places stay ≡ Some said → ClientSays c.stream recs said.0 said.1)
      → (p : Option PlacesSeen) → slice_get (places_at c place) k ≡ p → (s : Option StaySeen) → slice_get (stays_at c place) k ≡ s
      → (said : Said) → given_by gives p s ≡ Some said → SaysAt c place said.0 said.1
  stay_says_it gives h None ep s es said e = absurd (cc)
  stay_says_it gives h (Some places) ep None es said e = absurd (cc)
  stay_says_it gives h (Some places) ep (Some stay) es said e = in_its_tap c place k places stay ep es said.0 said.1 (λ recs tells. h places stay recs tells said e)

  pub ask_says_it : (said : Said) → asked_at c place k ≡ Some said → SaysAt c place said.0 said.1
  ask_says_it said e =
      stay_says_it (λ places seen. ask_said seen.c places.ask seen.asked) (λ places stay recs tells. ask_says c place k places stay recs places.ask stay.asked tells.asks)
      (slice_get (places_at c place) k) refl (slice_get (stays_at c place) k) refl said e

  pub reply_says_it : (said : Said) → replied_at c place k ≡ Some said → SaysAt c place said.0 said.1
  reply_says_it said e =
      stay_says_it (λ places seen. reply_said seen.c places.reply seen.reply) (λ places stay recs tells. reply_says c place k places stay recs places.reply stay.reply tells.replies)
      (slice_get (places_at c place) k) refl (slice_get (stays_at c place) k) refl said e

  pub frame_says_it : (i : ℕ) (said : Said) → got_at c place k i ≡ Some said → SaysAt c place said.0 said.1
  frame_says_it i said e =
      stay_says_it (λ places seen. frame_said c.stream seen.c (slice_get places.frames i) (slice_get seen.frames i))
      (λ places stay recs tells. frame_says c place k places stay recs i tells.gets (slice_get places.frames i) refl (slice_get stay.frames i) refl)
      (slice_get (places_at c place) k) refl (slice_get (stays_at c place) k) refl said e
