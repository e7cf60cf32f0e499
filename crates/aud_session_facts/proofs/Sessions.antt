-- What was due to the session of a made certificate.
use Rattle.std.proofs.Common.{◌≡◌, ℕ, List, map, length, Option, Some, None, slice_get, option_map, refl, sym, ap, subst, ◌∙◌, true, true≢false}
use Rattle.std.specs.List.{All}
use Rattle.std.proofs.lemmas.List.Kept.{AllPairs-from_increasing}
use Rattle.std.proofs.lemmas.Option.{none-some, same_Some}
use Rattle.aud_tap.specs.declared.records.StreamRec.{StreamRec}
use Rattle.aud_node.specs.Cluster.{Cluster}
use Rattle.aud_node.specs.Stream.{Text}
use Rattle.aud_cert.specs.Certificate.{CertificateSeen}
use Rattle.aud_maker.specs.Made.{IsMade}
use Rattle.aud_tap.specs.declared.records.ClientRec.{ClientRec}
use Rattle.aud_client.specs.StaySeen.{StaySeen, TellsAltered}
use Rattle.aud_client.specs.Received.{TranscriptSeen, transcript_at, transcript_of, stays_naming}
use Rattle.aud_client.specs.Replies.{is_naming, naming_places}
use Rattle.aud_node.specs.NodeTaps.{client_at}
use Rattle.aud_check.specs.Shown.{recs_or_none}
use Rattle.aud_rooms.specs.Turns.{Who, Slice, slice_of}
use Rattle.aud_rooms.specs.TurnsDue.{turns_due, is_turn_due, greatest_high}
use Rattle.aud_rooms.specs.Spans.{RoomSpan, AreSpansOfTurns, due_by_spans, first_low}
use Rattle.aud_rooms.proofs.Ascending.{filter-ascends}
use Rattle.aud_session_facts.specs.Opened.{greatest_turn_high, opened_in}
use Rattle.aud_session_facts.proofs.Highs.{highs}
use Rattle.aud_session_facts.proofs.MissedLemmas.{opened_is}
use Rattle.aud_check.specs.Difference.{IsAscending}
use Rattle.aud_verdict.specs.Session.{SessionLogs, IsSession, due_to, transcript}
use Rattle.aud_verdict.proofs.Sessions.{naming}
use Rattle.aud_session_facts.specs.Private.Sessions.{session_made}
use Rattle.aud_session_facts.specs.Account.{IsAccount}

-- what was due ascends
pub due_ascends : (c : Cluster) (s : SessionLogs) → IsAscending (due_to c s)
due_ascends c s = AllPairs-from_increasing _ (filter-ascends (is_turn_due c.stream s.who (map (slice_of c) s.turns)) 1 (length c.stream))

-- the stays of a tap that name a session tell truly of their frames
pub tells_there : (c : Cluster) → ((stream : List StreamRec) (recs : List ClientRec) (pid : Text) → All (TellsAltered stream) (stays_naming pid (transcript_of stream recs).stays))
    → (pid : Text) (client : ℕ) (tap : TranscriptSeen) (stream : List StreamRec) (stays : List StaySeen)
    → Some tap ≡ transcript_at c client → stream ≡ c.stream → stays ≡ stays_naming pid tap.stays → All (TellsAltered stream) stays
tells_there c law pid client tap stream stays there of_c own = go (client_at c client) there
  where
    go : (o : Option (List ClientRec)) → Some tap ≡ option_map (transcript_of c.stream) o → All (TellsAltered stream) stays
    go None is = absurd (none-some tap (sym is))
    go (Some recs) is =
        let its = own ∙ ap (λ (t : TranscriptSeen). stays_naming pid t.stays) (same_Some tap (transcript_of c.stream recs) is) in
        subst (λ (s : List StreamRec). All (TellsAltered s) stays) (sym of_c) (subst (All (TellsAltered c.stream)) (sym its) (law c.stream recs pid))

module _ (c : Cluster) (cert : CertificateSeen) (made : IsMade c cert.pid cert) where
  -- the session is the recording's
  pub session_is : IsSession c cert.pid (session_made c cert made)
  session_is = record { names = made.names; chain = made.chain; only = made.client.only }

  -- the records of its turns
  abbrev slices : List Slice
  slices = map (slice_of c) made.turns

  -- the certificate's spans are those of its turns
  spans_are : AreSpansOfTurns c.stream made.who slices cert.spans
  spans_are = subst (λ pid. AreSpansOfTurns c.stream (record { pid = pid; sid = made.who.sid; nsp = made.who.nsp }) slices cert.spans) (sym made.names) (made.is.spans_are made.who.nsp)

  -- what is due by its spans is what was due to it
  pub due_so : ((stream : List StreamRec) (who : Who) (slices : List Slice) (spans : List RoomSpan)
      → AreSpansOfTurns stream who slices spans
      → due_by_spans spans stream who.nsp (first_low slices) (greatest_high slices) ≡ turns_due stream who slices)
      → (sid nsp : Text) (low high : ℕ) → opened_in cert.turns ≡ Some (sid, nsp, low) → high ≡ greatest_turn_high cert.turns
      → due_by_spans cert.spans c.stream nsp low high ≡ due_to c (session_made c cert made)
  due_so law sid nsp low high opened high_is =
      let same = same_Some (sid, nsp, low) (made.who.sid, made.who.nsp, first_low slices) (sym opened ∙ opened_is c cert made) in
      let nsp_is : nsp ≡ made.who.nsp = ap (λ (o : Text × Text × ℕ). o.1) same in
      let low_is : low ≡ first_low slices = ap (λ (o : Text × Text × ℕ). o.2) same in
      let top_is : high ≡ greatest_high slices = high_is ∙ ap greatest_turn_high made.is.turns_are ∙ highs c made.turns in
      (λ i. due_by_spans cert.spans c.stream (nsp_is i) (low_is i) (top_is i)) ∙ law c.stream made.who slices cert.spans spans_are

  -- the place of its client's tap
  client_is : (pid : Text) (client : ℕ) → pid ≡ cert.pid → Some client ≡ slice_get (naming_places c.taps pid) 0 → client ≡ made.client.place
  client_is pid client pid_is is =
      same_Some client made.client.place (is ∙ ap (λ p. slice_get (naming_places c.taps p) 0) pid_is ∙ ap (λ ps. slice_get ps 0) made.client.only)

  -- there is such a tap
  pub tap_there : (pid : Text) (client : ℕ) → pid ≡ cert.pid → Some client ≡ slice_get (naming_places c.taps pid) 0 → None ≡ transcript_at c client → ⊥
  tap_there pid client pid_is at none = go (client_at c client) refl
    where
      named : is_naming cert.pid (client_at c client) ≡ true
      named = ap (λ place. is_naming cert.pid (client_at c place)) (client_is pid client pid_is at) ∙ naming c cert.pid (session_made c cert made) session_is

      go : (o : Option (List ClientRec)) → client_at c client ≡ o → ⊥
      go None is = true≢false (sym named ∙ ap (is_naming cert.pid) is)
      go (Some recs) is = none-some (transcript_of c.stream recs) (none ∙ ap (option_map (transcript_of c.stream)) is)

  -- what its client's tap tells
  tap_is : (pid : Text) (client : ℕ) (tap : TranscriptSeen) → pid ≡ cert.pid → client ≡ made.client.place → Some tap ≡ transcript_at c client → tap ≡ transcript c (session_made c cert made)
  tap_is pid client tap pid_is place_is there = go (client_at c made.client.place) (there ∙ ap (transcript_at c) place_is)
    where
      go : (o : Option (List ClientRec)) → Some tap ≡ option_map (transcript_of c.stream) o → tap ≡ transcript_of c.stream (recs_or_none o)
      go None is = absurd (none-some tap (sym is))
      go (Some recs) is = same_Some tap (transcript_of c.stream recs) is

  -- so this is its account
  pub account_made : (first second : Text) (client : ℕ) (tap : TranscriptSeen) (stays : List StaySeen) (due : List ℕ)
      → first ≡ cert.pid → Some client ≡ slice_get (naming_places c.taps first) 0
      → Some tap ≡ transcript_at c client
      → second ≡ cert.pid → stays ≡ stays_naming second tap.stays
      → due ≡ due_to c (session_made c cert made)
      → IsAccount c cert.pid client stays due
  account_made first second client tap stays due first_is client_at tap_at second_is stays_at due_is =
      let place = client_is first client first_is client_at in
      let told = tap_is first client tap first_is place tap_at in
      record {
        session = session_made c cert made;
        is_session = session_is;
        client_is = place;
        stays_are = stays_at ∙ (λ i. stays_naming ((second_is ∙ sym made.names) i) (told i).stays);
        due_is = due_is;
      }
