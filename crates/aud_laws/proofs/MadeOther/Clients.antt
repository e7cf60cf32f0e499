-- What a client's tap that tells of a session tells over a stream in which only entries that the session doesn't need
-- are `other`.
use Rattle.std.proofs.Common.{◌≡◌, ◌&&◌, ◌||◌, ℕ, Bool, true, false, cond, List, [], ◌∷◌, map, length, get_or, Option, Some, None, option_map, slice_get, refl, sym, ap, subst, ◌∙◌}
use Rattle.std.specs.List.{All}
use Rattle.std.specs.Option.{option_and_then}
use Rattle.std.proofs.lemmas.Bool.{false≢true, and_from, or_right, false_from_ne_true}
use Rattle.std.proofs.lemmas.List.Elements.{All-map}
use Rattle.std.proofs.lemmas.Option.{none-some, same_Some, slice_get-get_or}
use Rattle.aud_tap.specs.Forms.{passing}
use Rattle.aud_tap.specs.declared.records.StreamRec.{StreamRec}
use Rattle.aud_tap.specs.declared.records.ClientRec.{ClientRec}
use Rattle.aud_tap.specs.declared.taps.Records.{Records}
use Rattle.aud_tap.specs.declared.taps.Records.TheVariants.{Stream, Node, Client}
use Rattle.aud_tap.specs.declared.taps.Tap.{Tap}
use Rattle.aud_tap.specs.RecordFields.{offset_of}
use Rattle.aud_base.proofs.SameText.{itself_text}
use Rattle.aud_node.specs.AtPosition.{is_some_recoverable, is_recoverable_at}
use Rattle.aud_node.specs.Lists.{numbers_from}
use Rattle.aud_node.specs.NodeTaps.{client_records, client_recs, client_at}
use Rattle.aud_node.specs.Recoverable.{is_recoverable}
use Rattle.aud_node.specs.Stream.{Text, position, entry}
use Rattle.aud_client.specs.TapPackets.{TapPacket, FromServer, FromClient, tap_packets}
use Rattle.aud_client.specs.Replies.{is_this, is_naming, naming_places, tap_names}
use Rattle.aud_client.specs.StaySeen.{FrameSeen, recoverable_position, offset_in, frame_at, frame_of}
use Rattle.aud_check.specs.Shown.{recs_or_none}
use Rattle.aud_parts.specs.LeftOut.{tell_of}
use Rattle.aud_parts.specs.MadeOther.{entry_left, is_event_of, has_event_of, tell_event, has_come, may_be_for, needs}
use Rattle.aud_laws.proofs.LeftOut.Logs.{over, any-there}
use Rattle.aud_laws.proofs.LeftOut.Places.{kept-there}
use Rattle.aud_laws.proofs.MadeOther.Streams.{other-not, offset-there, left-kept, left-other, position-left, entry-left}
use Rattle.aud_laws.proofs.MadeOther.Due.{all-entries}
use Rattle.aud_laws.proofs.MadeOther.Packets.{IsSeenAlike, TellsAlike, tells_alike}

-- where a client's tap names the session, an event that came in it has come
come-there : (taps : List Tap) (pid off : Text) (place : ℕ) (recs : List ClientRec) → option_and_then client_recs (slice_get taps place) ≡ Some recs → tap_names pid recs ≡ true
    → tell_event off (Client recs) ≡ true → has_come taps pid off ≡ true
come-there taps pid off place recs at names tells = go (slice_get taps place) refl at
  where
    both : (records : Records) → client_records records ≡ Some recs → (tell_of pid records && tell_event off records) ≡ true
    both (Stream rs) h = absurd (none-some recs h)
    both (Node rs) h = absurd (none-some recs h)
    both (Client rs) h =
        ap (λ (r : List ClientRec). tap_names pid r && tell_event off (Client r)) (same_Some rs recs h) ∙ and_from (tap_names pid recs) (tell_event off (Client recs)) names tells

    go : (o : Option Tap) → slice_get taps place ≡ o → option_and_then client_recs o ≡ Some recs → has_come taps pid off ≡ true
    go None none h = absurd (none-some recs h)
    go (Some tap) is h = any-there (λ (t : Tap). tell_of pid t.records && tell_event off t.records) taps place tap is (both tap.records h)

module _ (keeps : StreamRec → Bool) (stream : List StreamRec) (taps : List Tap) (pid : Text) (kept : All (λ (e : StreamRec). needs taps pid e ≡ true → keeps e ≡ true) stream) where
  abbrev other : List StreamRec
  other = map (entry_left keeps) stream

  -- the entry at a position stays, or it is recoverable neither before nor after
  data AtAlike (p : ℕ) : Type 0 where
    Same : entry other p ≡ entry stream p → AtAlike p
    Neither : is_recoverable_at other p ≡ false → is_recoverable_at stream p ≡ false → AtAlike p

  -- so where an event has come that ends in its offset
  at_alike : (off : Text) → has_come taps pid off ≡ true → (p : ℕ) → position stream off ≡ Some p → AtAlike p
  at_alike off come p at =
      let (e, there, same) = offset-there stream off p at in
      let moved : entry other p ≡ Some (entry_left keeps e) = entry-left keeps stream p ∙ ap (option_map (entry_left keeps)) there in
      go e there same moved (keeps e) refl
    where
      go : (e : StreamRec) → entry stream p ≡ Some e → offset_of e ≡ off → entry other p ≡ Some (entry_left keeps e) → (b : Bool) → keeps e ≡ b → AtAlike p
      go e there same moved true is = Same (moved ∙ ap Some (left-kept keeps e is) ∙ sym there)
      go e there same moved false out =
          let its : has_come taps pid (offset_of e) ≡ true = ap (has_come taps pid) same ∙ come in
          let needed = all-entries (λ (x : StreamRec). needs taps pid x ≡ true → keeps x ≡ true) stream p e kept there in
          let needs_it : is_recoverable e ≡ true → needs taps pid e ≡ true =
          λ is. and_from (is_recoverable e) (may_be_for taps pid e || has_come taps pid (offset_of e)) is (or_right (may_be_for taps pid e) (has_come taps pid (offset_of e)) its) in
          let not_before = false_from_ne_true (is_recoverable e) (λ is. false≢true (sym out ∙ needed (needs_it is))) in
          Neither (ap is_some_recoverable (moved ∙ ap Some (left-other keeps e out)) ∙ other-not (offset_of e)) (ap is_some_recoverable there ∙ not_before)

  -- the recoverable entry that has such an offset
  record OffsetAlike (off : Text) : Type 0 where
    position_is : recoverable_position other off ≡ recoverable_position stream off
    entry_is : (p : ℕ) → recoverable_position stream off ≡ Some p → entry other p ≡ entry stream p

  passes-same : (p : ℕ) → entry other p ≡ entry stream p → is_recoverable_at other p ≡ is_recoverable_at stream p
  passes-same p same = ap is_some_recoverable same

  offset_alike : (off : Text) → has_come taps pid off ≡ true → OffsetAlike off
  offset_alike off come = go (position stream off) refl (at_alike off come)
    where
      go : (o : Option ℕ) → position stream off ≡ o → ((p : ℕ) → position stream off ≡ Some p → AtAlike p) → OffsetAlike off
      go None none alike =
          let before : recoverable_position stream off ≡ None = ap (option_and_then (passing (is_recoverable_at stream))) none in
          record {
            position_is = ap (option_and_then (passing (is_recoverable_at other))) (position-left keeps stream off ∙ none) ∙ sym before;
            entry_is = λ p is. absurd (none-some p (sym before ∙ is));
          }
      go (Some q) at alike = further (alike q at)
        where
          before : recoverable_position stream off ≡ passing (is_recoverable_at stream) q
          before = ap (option_and_then (passing (is_recoverable_at stream))) at

          after : recoverable_position other off ≡ passing (is_recoverable_at other) q
          after = ap (option_and_then (passing (is_recoverable_at other))) (position-left keeps stream off ∙ at)

          further : AtAlike q → OffsetAlike off
          further (Same same) =
              record {
                position_is = after ∙ ap (λ b. cond b (Some q) None) (passes-same q same) ∙ sym before;
                entry_is = λ p is. (let here : q ≡ p = there (is_recoverable_at stream q) p (sym before ∙ is) in subst (λ x. entry other x ≡ entry stream x) here same);
              }
            where
              there : (b : Bool) (p : ℕ) → cond b (Some q) None ≡ Some p → q ≡ p
              there true p h = same_Some q p h
              there false p h = absurd (none-some p h)
          further (Neither now was) =
              let none : passing (is_recoverable_at stream) q ≡ None = ap (λ b. cond b (Some q) None) was in
              record {
                position_is = after ∙ ap (λ b. cond b (Some q) None) now ∙ sym (before ∙ none);
                entry_is = λ p is. absurd (none-some p (sym (before ∙ none) ∙ is));
              }

  -- a packet is seen alike where, if it is an event that ends in an offset, such an event has come
  seen_alike : (packet : TapPacket) → ((off : Text) → is_event_of off packet ≡ true → has_come taps pid off ≡ true) → IsSeenAlike stream other packet
  seen_alike (FromClient packet) come = record { frame_is = refl; entry_is = λ frame is. absurd (none-some frame is) }
  seen_alike (FromServer whole) come = go (offset_in whole.packet) refl (λ off at. offset_alike off (come off (ap (is_this off) at ∙ itself_text off)))
    where
      go : (o : Option Text) → offset_in whole.packet ≡ o → ((off : Text) → offset_in whole.packet ≡ Some off → OffsetAlike off) → IsSeenAlike stream other (FromServer whole)
      go None none alike =
          let before : frame_of stream (FromServer whole) ≡ None = ap (λ o. option_map (frame_at whole) (option_and_then (recoverable_position stream) o)) none in
          record {
            frame_is = ap (λ o. option_map (frame_at whole) (option_and_then (recoverable_position other) o)) none ∙ sym before;
            entry_is = λ frame is. absurd (none-some frame (sym before ∙ is));
          }
      go (Some off) at alike =
          let before : frame_of stream (FromServer whole) ≡ option_map (frame_at whole) (recoverable_position stream off) = ap (λ o. option_map (frame_at whole) (option_and_then (recoverable_position stream) o)) at in
          let here = alike off at in
          record {
            frame_is = ap (λ o. option_map (frame_at whole) (option_and_then (recoverable_position other) o)) at ∙ ap (option_map (frame_at whole)) here.position_is ∙ sym before;
            entry_is = λ frame is. further (recoverable_position stream off) refl here frame (sym before ∙ is);
          }
        where
          further : (o : Option ℕ) → recoverable_position stream off ≡ o → OffsetAlike off → (frame : FrameSeen) → option_map (frame_at whole) o ≡ Some frame → entry other frame.position ≡ entry stream frame.position
          further None none here frame is = absurd (none-some frame is)
          further (Some p) there here frame is =
              let same : frame_at whole p ≡ frame = same_Some (frame_at whole p) frame is in
              subst (λ (f : FrameSeen). entry other f.position ≡ entry stream f.position) same (here.entry_is p there)

  -- so is each packet of a client's tap that names the session
  pub naming_alike : (place : ℕ) (recs : List ClientRec) → option_and_then client_recs (slice_get taps place) ≡ Some recs → tap_names pid recs ≡ true → TellsAlike stream other recs
  naming_alike place recs at names =
      let cs = (tap_packets recs).connections in
      tells_alike stream other recs
      (λ k d lt.
      let c = get_or cs k d in
      All-map (IsSeenAlike stream other) (λ (placed : ℕ × TapPacket). placed.1) c.packets
      (λ j e less.
      seen_alike (get_or c.packets j e).1
      (λ off is.
      come-there taps pid off place recs at names
      (any-there (has_event_of off) cs k c (slice_get-get_or cs k d lt)
      (any-there (λ (placed : ℕ × TapPacket). is_event_of off placed.1) c.packets j (get_or c.packets j e) (slice_get-get_or c.packets j e less) is)))))

  -- the tap of the session's one client
  pub client_alike : (place : ℕ) → naming_places taps pid ≡ place ∷ [] → TellsAlike stream other (recs_or_none (client_at (over stream taps) place))
  client_alike place only = go (option_and_then client_recs (slice_get taps place)) refl named
    where
      named : is_naming pid (option_and_then client_recs (slice_get taps place)) ≡ true
      named = kept-there (λ p. is_naming pid (option_and_then client_recs (slice_get taps p))) (numbers_from 0 (length taps)) 0 place (ap (λ ps. slice_get ps 0) only)

      go : (o : Option (List ClientRec)) → option_and_then client_recs (slice_get taps place) ≡ o → is_naming pid o ≡ true → TellsAlike stream other (recs_or_none o)
      go None none is = absurd (false≢true is)
      go (Some recs) at is = naming_alike place recs at is
