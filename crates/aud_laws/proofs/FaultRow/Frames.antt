-- Rows of the frames and of the stays of a session, where a line is kept for each record.
use Rattle.std.proofs.Common.{◌≡◌, ℕ, ◌<◌, true, List, length, Option, Some, None, slice_get, refl, sym, ap, subst, ◌∙◌, arith}
use Rattle.std.specs.Option.{option_and_then}
use Rattle.std.proofs.lemmas.Bool.{false≢true}
use Rattle.std.proofs.lemmas.List.{length-map}
use Rattle.std.proofs.lemmas.Option.{slice_get_within}
use Rattle.aud_node.specs.Cluster.{Cluster}
use Rattle.aud_node.specs.Stream.{Text}
use Rattle.aud_rooms.specs.Turns.{Turn}
use Rattle.aud_client.specs.StaySeen.{StaySeen, AskedSeen, FrameSeen}
use Rattle.aud_client.specs.Received.{asked_for_reply, is_recovered, stays_naming, stays_numbered}
use Rattle.aud_client.proofs.Numbers.{numbered_naming}
use Rattle.aud_check.specs.Frames.{frames_in}
use Rattle.aud_check.specs.Window.{positions_received}
use Rattle.aud_input.specs.TapLines.{TapLines}
use Rattle.aud_verdict.specs.Session.{SessionLogs, IsSession, own_stays}
use Rattle.aud_rows.specs.declared.row.Role.TheVariants.{Fault}
use Rattle.aud_rows.specs.StayRows.{ask_row, frame_row, stays_at}
use Rattle.aud_session_facts.specs.declared.shown.frame_place.FramePlace.{FramePlace}
use Rattle.aud_session_facts.specs.FramePlaces.{frame_at}
use Rattle.aud_session_facts.specs.SessionRows.{Session, ask_of_stay, got_row}
use Rattle.aud_session_facts.specs.ShowsDifference.{AreNumbersOf}
use Rattle.aud_laws.specs.FaultRows.{KnowsEachRecord}
use Rattle.aud_laws.proofs.FaultRow.Placed.{numbered_stay, placed}
use Rattle.aud_laws.proofs.FaultRow.Rows.{Marked}
use Rattle.aud_laws.proofs.FaultRow.Sessions.{told_at}
use Rattle.aud_laws.proofs.FaultRow.Stays.{ask_marked, frame_marked}

-- so many positions as frames were received
pub count_is : (stays : List StaySeen) → length (positions_received stays) ≡ length (frames_in stays)
count_is stays = length-map (frames_in stays) (λ (frame : FrameSeen). frame.position)

-- a stay that is recovered asked for something
asked_given : (stay : StaySeen) → is_recovered stay ≡ true → (asked : AskedSeen) × (stay.asked ≡ Some asked)
asked_given stay is = go stay.asked refl is
  where
    go : (o : Option AskedSeen) → stay.asked ≡ o → asked_for_reply o stay.reply ≡ true → (asked : AskedSeen) × (stay.asked ≡ Some asked)
    go None e is = absurd (false≢true is)
    go (Some asked) e is = (asked, e)

module _ (c : Cluster) (lines : List TapLines) (known : KnowsEachRecord c.taps lines) (pid : Text) (s : SessionLogs) (is : IsSession c pid s) (numbers : List ℕ) (are : AreNumbersOf c pid s.client numbers) where
  -- the session's stays are those of its client's tap that name it
  own_are : own_stays c s ≡ stays_naming pid (stays_at c s.client)
  own_are = (λ i. stays_naming (is.names i) (told_at c s i))

  own_numbered : stays_numbered (stays_at c s.client) numbers ≡ own_stays c s
  own_numbered = ap (stays_numbered (stays_at c s.client)) are ∙ numbered_naming pid (stays_at c s.client) ∙ sym own_are

  -- the row of a frame that was received
  pub frame_there : (frame : ℕ) → frame < length (positions_received (own_stays c s))
      → Marked (option_and_then (λ (at : FramePlace). frame_row c lines s.client at.stay at.frame Fault) (frame_at (stays_at c s.client) numbers frame))
  frame_there frame within =
      let p = placed (stays_at c s.client) numbers frame (omega (arith, within, count_is (own_stays c s), ap (λ ss. length (frames_in ss)) own_numbered)) in
      subst (λ o. Marked (option_and_then (λ (at : FramePlace). frame_row c lines s.client at.stay at.frame Fault) o)) (sym p.is_at)
      (frame_marked c lines known s.client p.at.stay p.at.frame p.stay p.seen p.stay_is p.seen_is)

  module _ (turns : List Turn) where
    -- the session over these turns
    abbrev over : Session
    over = record { c = c; lines = lines; turns = turns; client = s.client; numbers = numbers }

    -- the row of the frame of a position that was received
    pub got_marked : (frame p : ℕ) → slice_get (positions_received (own_stays c s)) frame ≡ Some p → Marked (got_row over frame Fault)
    got_marked frame p at = frame_there frame (slice_get_within (positions_received (own_stays c s)) frame p at)

    -- the row of what a stay asked that is recovered
    pub recovered_marked : (k : ℕ) (stay : StaySeen) → slice_get (own_stays c s) k ≡ Some stay → is_recovered stay ≡ true → Marked (ask_of_stay over k Fault)
    recovered_marked k stay at recovered =
        let (number, is_number, there) = numbered_stay pid (stays_at c s.client) k stay (ap (λ ss. slice_get ss k) (sym own_are) ∙ at) in
        let (asked, asks) = asked_given stay recovered in
        subst (λ o. Marked (option_and_then (λ n. ask_row c lines s.client n Fault) o)) (sym (ap (λ ns. slice_get ns k) are ∙ is_number))
        (ask_marked c lines known s.client number stay asked there asks)
