-- What a client received, by its stays.
use Rattle.std.proofs.Common.{arith, ◌≡◌, ℕ, true, ◌&&◌, not, List, [], ◌∷◌, Some, refl, sym, ap, subst, ◌∙◌}
use Rattle.std.proofs.lemmas.Bool.{and_parts}
use Rattle.std.specs.List.{All, list_all}
use Rattle.std.specs.Str.{bytes_eq}
use Rattle.aud_tap.specs.declared.records.StreamRec.{StreamRec}
use Rattle.aud_tap.specs.declared.records.ClientRec.{ClientRec}
use Rattle.aud_node.specs.Stream.{Text}
use Rattle.aud_node.specs.Cluster.{Cluster}
use Rattle.aud_node.specs.NodeTaps.{client_at}
use Rattle.aud_rooms.specs.Turns.{Who}
use Rattle.aud_cert.specs.Certificate.{place_named}
use Rattle.aud_client.specs.StaySeen.{StaySeen, FrameSeen, TellsAltered}
use Rattle.aud_client.specs.Received.{TranscriptSeen, transcript_of, received_list, stays_naming, frames_by_stay, are_in_namespace}
use Rattle.aud_check.specs.Client.{case_for}
use Rattle.aud_check.specs.Private.ClientCheck.{IsClientRefusal, transcript_named}
use Rattle.aud_check.specs.Faults.{Case}
use Rattle.aud_check.specs.NamedStays.{are_of_session, is_of_session, is_empty, has_sid}
use Rattle.aud_check.specs.Shown.{recs_or_none}
use Rattle.aud_check.specs.Findings.{by_stays}
use Rattle.aud_check.specs.Private.ReceivedCheck.{IsReceivedRefusal}
use Rattle.aud_check.specs.declared.refusal.Refusal.{Refusal}

-- stays that are all of the session are all in its namespace
all_in : (who : Who) (stays : List StaySeen) → list_all (is_of_session who) stays ≡ true → are_in_namespace who.nsp stays ≡ true
all_in who [] all = refl
all_in who (stay ∷ stays) all =
    let (first, rest) = and_parts (is_of_session who stay) (list_all (is_of_session who) stays) all in
    let (same, named) = and_parts (bytes_eq stay.nsp who.nsp) (has_sid who.sid stay.reply) first in
    ap (λ b. b && are_in_namespace who.nsp stays) same ∙ all_in who stays rest

-- what a tap tells is told by its records
pub told_recs : (c : Cluster) (client : Text) (t : TranscriptSeen) → Some t ≡ transcript_named c client
    → (recs : List ClientRec) × (client_at c (place_named c client) ≡ Some recs) × (t ≡ transcript_of c.stream recs)
told_recs c client t is = grind arith

-- the stays of the named tap tell truly of their frames
pub tells_named : (c : Cluster) (client pid : Text) → ((stream : List StreamRec) (recs : List ClientRec) (q : Text) → All (TellsAltered stream) (stays_naming q (transcript_of stream recs).stays))
    → (tap : TranscriptSeen) → Some tap ≡ transcript_named c client → (stream : List StreamRec) (stays : List StaySeen) → stream ≡ c.stream → stays ≡ stays_naming pid tap.stays → All (TellsAltered stream) stays
tells_named c client pid law tap is stream stays of_c own =
    let (recs, at, tells) = told_recs c client tap is in
    let its : stays ≡ stays_naming pid (transcript_of c.stream recs).stays = own ∙ ap (λ (r : TranscriptSeen). stays_naming pid r.stays) tells in
    subst (λ (s : List StreamRec). All (TellsAltered s) stays) (sym of_c) (subst (All (TellsAltered c.stream)) (sym its) (law c.stream recs pid))

-- the stays of one session are in one namespace
pub one_namespace : (who : Who) (stays : List StaySeen) → are_of_session who stays ≡ true → are_in_namespace who.nsp stays ≡ true
one_namespace who stays is = all_in who stays (and_parts (not (is_empty stays)) (list_all (is_of_session who) stays) is).1

-- where the tap tells of the session, the refusal of what was received is the tap's
pub client_refused : (who : Who) (case : Case) → are_of_session who case.stays ≡ true → (refusal : Refusal) → IsReceivedRefusal case refusal → IsClientRefusal who case refusal
client_refused who case named refusal first = grind arith

module _ (c : Cluster) (client : Text) (who : Who) (due : List ℕ) where
  -- the case of a tap with these records, where these are the frames
  abbrev case_with : List ClientRec → List FrameSeen → Case
  case_with recs frames =
      record { stream = c.stream; transcript = transcript_of c.stream recs; stays = stays_naming who.pid (transcript_of c.stream recs).stays; frames = frames; due = due }

  -- where the stays of the named tap are of one session, the list by place is the list by stays
  pub case_by_stays : ((stream : List StreamRec) (recs : List ClientRec) (pid nsp : Text) → are_in_namespace nsp (stays_naming pid (transcript_of stream recs).stays) ≡ true → received_list stream recs pid ≡ frames_by_stay pid (transcript_of stream recs).stays)
      → (tap : TranscriptSeen) → Some tap ≡ transcript_named c client → (stream : List StreamRec) (transcript : TranscriptSeen) (stays : List StaySeen)
      → stream ≡ c.stream → transcript ≡ tap → stays ≡ stays_naming who.pid tap.stays → are_of_session who stays ≡ true → by_stays stream transcript stays due ≡ case_for c client who.pid due
  case_by_stays law tap is stream transcript stays of_c of_tap own named =
      let (recs, at, tells) = told_recs c client tap is in
      let its : stays ≡ stays_naming who.pid (transcript_of c.stream recs).stays = own ∙ ap (λ (r : TranscriptSeen). stays_naming who.pid r.stays) tells in
      let one = one_namespace who (stays_naming who.pid (transcript_of c.stream recs).stays) (subst (λ ss. are_of_session who ss ≡ true) its named) in
      ap (λ s. by_stays s transcript stays due) of_c
      ∙ ap (λ t. by_stays c.stream t stays due) (of_tap ∙ tells)
      ∙ ap (λ ss. by_stays c.stream (transcript_of c.stream recs) ss due) its
      ∙ sym (ap (λ o. case_with (recs_or_none o) (received_list c.stream (recs_or_none o) who.pid)) at ∙ ap (case_with recs) (law c.stream recs who.pid who.nsp one))
