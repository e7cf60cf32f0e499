-- What the records of a client's tap say that carry no packet.
use Rattle.std.proofs.Common.{◌≡◌, ℕ, cond, Bool, true, false, List, refl, ap, subst, Option, Some, None, slice_get}
use Rattle.std.specs.Option.{option_map, option_and_then}
use Rattle.aud_tap.specs.declared.records.ClientRec.{ClientRec}
use Rattle.aud_tap.specs.declared.records.ClientRec.TheVariants as tap
use Rattle.aud_tap.specs.declared.taps.Records.{Records}
use Rattle.aud_tap.specs.declared.taps.Records.TheVariants.{Stream, Node, Client}
use Rattle.aud_node.specs.Cluster.{Cluster}
use Rattle.aud_node.specs.NodeTaps.{client_at, client_recs, client_records}
use Rattle.aud_client.specs.TapPackets.{tap_packets}
use Rattle.aud_client.specs.StayPlaces.{PlacesSeen}
use Rattle.aud_rows.specs.Seen.{Lost, NoPacket}
use Rattle.aud_rows.specs.Marks.{marks_of, first_past, open_before}
use Rattle.aud_rows.specs.ClientPlaces.{places_at}
use Rattle.aud_rows.specs.ClientSays.{ClientSays}
use Rattle.aud_rows.specs.TrueRow.{RecordSays}
use Rattle.aud_rows.specs.Rows.{Said}
use Rattle.aud_rows.specs.EndRows.{is_lost, lost_said, lost_in, lost_at, bad_said, bad_in, bad_at}
use Rattle.aud_rows.proofs.TrueRows.{SaysAt}

module _ (c : Cluster) where
  -- what is said of the tap's records is said at its place
  pub in_the_tap : (place : ℕ) (gives : Option (List ClientRec) → Option Said) → ((said : Said) → gives None ≡ Some said → ⊥)
      → ((recs : List ClientRec) (said : Said) → gives (Some recs) ≡ Some said → ClientSays c.stream recs said.0 said.1)
      → (said : Said) → gives (client_at c place) ≡ Some said → SaysAt c place said.0 said.1
  in_the_tap place gives none some said e tap there = go tap.records (subst (λ o. gives o ≡ Some said) (ap (option_and_then client_recs) there) e)
    where
      go : (r : Records) → gives (client_records r) ≡ Some said → RecordSays c.stream r said.0 said.1
      go (Stream recs) e = absurd (none said e)
      go (Node recs) e = absurd (none said e)
      go (Client recs) e = some recs said e

  module _ (recs : List ClientRec) where
    -- the record is a `lost`
    is_the_lost : (o : Option ClientRec) → is_lost o ≡ true → o ≡ Some tap.Lost
    is_the_lost None e = absurd (cc)
    is_the_lost (Some (tap.Conn k)) e = absurd (cc)
    is_the_lost (Some (tap.TextIn t)) e = absurd (cc)
    is_the_lost (Some (tap.BytesIn b)) e = absurd (cc)
    is_the_lost (Some (tap.Poll t)) e = absurd (cc)
    is_the_lost (Some (tap.TextOut t)) e = absurd (cc)
    is_the_lost (Some tap.Lost) e = refl

    lost_there : (number : ℕ) (said : Said) → lost_said recs number ≡ Some said → ClientSays c.stream recs said.0 said.1
    lost_there number said e = go (is_lost (slice_get recs number)) refl (open_before recs number) refl e
      where
        go : (b : Bool) → is_lost (slice_get recs number) ≡ b → (o : Option ℕ) → open_before recs number ≡ o
            → cond b (option_map (λ conn. (number, Lost conn)) o) None ≡ Some said → ClientSays c.stream recs said.0 said.1
        go false eb o eo e = absurd (cc)
        go true eb None eo e = absurd (cc)
        go true eb (Some conn) eo e =
            let same : (number, Lost conn) ≡ said = cc in
            subst (λ (x : Said). ClientSays c.stream recs x.0 x.1) same (is_the_lost (slice_get recs number) eb, eo)

    past_there : (o : Option ℕ) (said : Said) → option_and_then (lost_said recs) o ≡ Some said → ClientSays c.stream recs said.0 said.1
    past_there None said e = absurd (cc)
    past_there (Some mark) said e = lost_there mark said e

    bad_there : (o : Option ℕ) → (tap_packets recs).bad ≡ o → (said : Said) → option_and_then (bad_said recs) o ≡ Some said → ClientSays c.stream recs said.0 said.1
    bad_there None eb said e = absurd (cc)
    bad_there (Some number) eb said e = go (open_before recs number) refl e
      where
        go : (o : Option ℕ) → open_before recs number ≡ o → option_map (λ conn. (number, NoPacket conn)) o ≡ Some said → ClientSays c.stream recs said.0 said.1
        go None eo e = absurd (cc)
        go (Some conn) eo e =
            let same : (number, NoPacket conn) ≡ said = cc in
            subst (λ (x : Said). ClientSays c.stream recs x.0 x.1) same (eb, eo)

  lost_of_stay : (p : Option PlacesSeen) (recs : List ClientRec) (said : Said) → lost_in (Some recs) p ≡ Some said → ClientSays c.stream recs said.0 said.1
  lost_of_stay None recs said e = absurd (cc)
  lost_of_stay (Some places) recs said e = past_there recs (first_past places.last (marks_of recs)) said e

  no_tap : (p : Option PlacesSeen) (said : Said) → lost_in None p ≡ Some said → ⊥
  no_tap None said e = cc
  no_tap (Some places) said e = cc

  pub lost_says_it : (place k : ℕ) (said : Said) → lost_at c place k ≡ Some said → SaysAt c place said.0 said.1
  lost_says_it place k said e =
      let p = slice_get (places_at c place) k in
      in_the_tap place (λ o. lost_in o p) (no_tap p) (lost_of_stay p) said e

  pub bad_says_it : (place : ℕ) (said : Said) → bad_at c place ≡ Some said → SaysAt c place said.0 said.1
  bad_says_it place said e = in_the_tap place bad_in (λ said e. cc) (λ recs said e. bad_there recs (tap_packets recs).bad refl said e) said e
