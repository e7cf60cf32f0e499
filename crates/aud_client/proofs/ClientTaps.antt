-- What is kept of the clients' taps, and what their places are.
use Rattle.std.proofs.Common.{◌≡◌, ℕ, List, length, map, refl, ap, ◌∙◌, Option, Some, None, option_map, slice_get}
use Rattle.std.specs.List.{filter}
use Rattle.std.specs.Option.{option_and_then}
use Rattle.std.proofs.lemmas.List.{length-map}
use Rattle.std.proofs.lemmas.List.Elements.{filter_agree}
use Rattle.std.proofs.lemmas.Option.{slice_get-map}
use Rattle.aud_tap.specs.declared.records.StreamRec.{StreamRec}
use Rattle.aud_tap.specs.declared.records.ClientRec.{ClientRec}
use Rattle.aud_tap.specs.declared.taps.Tap.{Tap}
use Rattle.aud_base.specs.Lists.{numbers_from}
use Rattle.aud_node.specs.NodeTaps.{client_recs, client_at}
use Rattle.aud_node.specs.Cluster.{Cluster}
use Rattle.aud_node.specs.Stream.{Text}
use Rattle.aud_client.specs.Replies.{is_naming, naming_places}
use Rattle.aud_client.specs.Received.{TranscriptSeen, transcript_of, transcript_at}
use Rattle.aud_client.specs.Private.Clients.{transcript_in, has_naming_stay, naming_transcripts}
use Rattle.aud_client.proofs.Named.{named_by_replies}

-- what stands at a place, if there is one
abbrev pub flat : Option (Option TranscriptSeen) → Option TranscriptSeen
flat o = option_and_then (λ transcript. transcript) o

-- what the tap at a place tells
flat-transcript : (stream : List StreamRec) (o : Option Tap) → flat (option_map (transcript_in stream) o) ≡ option_map (transcript_of stream) (option_and_then client_recs o)
flat-transcript stream None = refl
flat-transcript stream (Some tap) = refl

-- what is kept at the place is what the client's tap there tells
pub transcript_at-kept : (c : Cluster) (transcripts : List (Option TranscriptSeen)) (place : ℕ) → transcripts ≡ map (transcript_in c.stream) c.taps → flat (slice_get transcripts place) ≡ transcript_at c place
transcript_at-kept c transcripts place kept =
    ap flat (ap (λ it. slice_get it place) kept ∙ slice_get-map (transcript_in c.stream) c.taps place) ∙ flat-transcript c.stream (slice_get c.taps place)

-- a tap tells of a stay of the session where it names the session
transcript-naming : (stream : List StreamRec) (pid : Text) (recs : Option (List ClientRec)) → has_naming_stay pid (option_map (transcript_of stream) recs) ≡ is_naming pid recs
transcript-naming stream pid None = refl
transcript-naming stream pid (Some recs) = named_by_replies stream recs pid

-- the places of those that tell of a stay of the session are those of the taps that name it
pub places_naming : (c : Cluster) (transcripts : List (Option TranscriptSeen)) (pid : Text) → transcripts ≡ map (transcript_in c.stream) c.taps → naming_transcripts transcripts pid ≡ naming_places c.taps pid
places_naming c transcripts pid kept =
    filter_agree (λ place. has_naming_stay pid (flat (slice_get transcripts place))) (λ place. is_naming pid (client_at c place))
    (λ place. ap (has_naming_stay pid) (transcript_at-kept c transcripts place kept) ∙ transcript-naming c.stream pid (client_at c place)) (numbers_from 0 (length transcripts))
    ∙ ap (λ n. filter (λ place. is_naming pid (client_at c place)) (numbers_from 0 n)) (ap length kept ∙ length-map c.taps (transcript_in c.stream))
