-- Verdicts over streams that are alike for a session.
use Rattle.std.proofs.Common.{◌≡◌, ◌&&◌, not, Bool, cond, List, [], ◌∷◌, ◌++◌, map, filter, length, Option, Some, None, option_map, refl, sym, ap, subst, ◌∙◌}
use Rattle.std.specs.List.{All, Contains, list_any}
use Rattle.std.specs.Option.{option_and_then}
use Rattle.std.proofs.lemmas.List.Elements.{All-head, All-tail}
use Rattle.aud_tap.specs.declared.records.StreamRec.{StreamRec}
use Rattle.aud_tap.specs.declared.taps.Tap.{Tap}
use Rattle.aud_node.specs.Cluster.{node_log}
use Rattle.aud_node.specs.Stream.{Text, position}
use Rattle.aud_client.specs.StaySeen.{AskedSeen, StaySeen, FrameSeen}
use Rattle.aud_client.specs.Received.{is_orphan, is_recovered, stays_naming}
use Rattle.aud_cert.specs.declared.fault.Fault.{Fault}
use Rattle.aud_cert.specs.declared.fault.Fault.TheVariants.{NoLog, Chain, Order, Client, Names, Frame, Orphan, Content, Extra, Doubled, Swapped, Lost, Window, Tail}
use Rattle.aud_check.specs.Difference.{difference, has_position}
use Rattle.aud_check.specs.Faults.{named, position_in, fault_of, difference_fault}
use Rattle.aud_check.specs.Frames.{IsOf, AreEntries, IsFirstAltered, asked_position, frames_in, is_cut_at, is_asked_wrongly, wrong_window}
use Rattle.aud_verdict.specs.declared.verdict.Verdict.{Verdict}
use Rattle.aud_verdict.specs.declared.verdict.Verdict.TheVariants.{Yes, No}
use Rattle.aud_verdict.specs.Session.{SessionLogs, IsSession, client_log, own_stays, received_by, due_to, session_case, positions, missed}
use Rattle.aud_verdict.specs.Faults.{HoldsOf, Holds}
use Rattle.aud_verdict.specs.Verdict.{IsVerdict}
use Rattle.aud_laws.proofs.LeftOut.Logs.{over}
use Rattle.aud_laws.proofs.MadeOther.Lists.{all-parts}
use Rattle.aud_laws.proofs.MadeOther.Cursors.{ordered-same}
use Rattle.aud_laws.proofs.MadeOther.Packets.{HasSameEntry, TellsAlike}
use Rattle.aud_laws.proofs.MadeOther.Alike.{AreAlike, turned, chain-over, session-over}

-- functions that agree give the same of what there may be
map-same : {X Y : Type 0} (f g : X → Y) → ((x : X) → f x ≡ g x) → (o : Option X) → option_map f o ≡ option_map g o
map-same f g same None = refl
map-same f g same (Some x) = ap Some (same x)

module _ (stream other : List StreamRec) (taps : List Tap) (pid : Text) (alike : AreAlike stream other taps pid) where
  -- ---- the entries of frames

  entries-there : (frames : List FrameSeen) → All (HasSameEntry stream other) frames → AreEntries stream frames → AreEntries other frames
  entries-there [] all are = tt
  entries-there (frame ∷ frames) all are =
      (subst (IsOf frame) (sym (All-head (HasSameEntry stream other) frame frames all)) are.0, entries-there frames (All-tail (HasSameEntry stream other) frame frames all) are.1)

  altered-there : (frames others : List FrameSeen) (altered : FrameSeen) → others ≡ frames → All (HasSameEntry stream other) frames → IsFirstAltered stream frames altered → IsFirstAltered other others altered
  altered-there frames others altered same all first =
      let parts = all-parts (HasSameEntry stream other) first.before altered first.after (subst (All (HasSameEntry stream other)) first.parts all) in
      record {
        before = first.before;
        after = first.after;
        parts = same ∙ first.parts;
        are_entries = entries-there first.before parts.0 first.are_entries;
        is_altered = λ is. first.is_altered (subst (IsOf altered) parts.1 is);
      }

  -- ---- what a client asked for

  asked-same : (asked : Option AskedSeen) → asked_position other asked ≡ asked_position stream asked
  asked-same None = refl
  asked-same (Some asked) = go asked.offset
    where
      go : (o : Option Text) → option_and_then (position other) o ≡ option_and_then (position stream) o
      go None = refl
      go (Some off) = alike.place off

  wrongly-same : (before : List StaySeen) (stay : StaySeen) (after : List StaySeen) → is_asked_wrongly other before stay after ≡ is_asked_wrongly stream before stay after
  wrongly-same before stay after = ap (λ o. is_recovered stay && not (is_cut_at (frames_in before) (frames_in (stay ∷ after)) o)) (asked-same stay.asked)

  window-same : (before ss : List StaySeen) → wrong_window other before ss ≡ wrong_window stream before ss
  window-same before [] = refl
  window-same before (stay ∷ after) =
      ap (λ b. cond b (Some stay.c) (wrong_window other (before ++ stay ∷ []) after)) (wrongly-same before stay after)
      ∙ ap (λ o. cond (is_asked_wrongly stream before stay after) (Some stay.c) o) (window-same (before ++ stay ∷ []) after)

  -- ---- a session

  module _ (s : SessionLogs) (is : IsSession (over stream taps) pid s) where
    tells : TellsAlike stream other (client_log (over stream taps) s)
    tells = alike.tells s.client is.only

    pub due : due_to (over other taps) s ≡ due_to (over stream taps) s
    due = alike.due s.who s.turns is.names is.chain

    pub frames : received_by (over other taps) s ≡ received_by (over stream taps) s
    frames = tells.frames_are s.who.pid

    stays : own_stays (over other taps) s ≡ own_stays (over stream taps) s
    stays = ap (stays_naming s.who.pid) tells.stays_are

    positions-same : positions (over other taps) s ≡ positions (over stream taps) s
    positions-same = ap (map (λ (frame : FrameSeen). frame.position)) frames

    wrong-same : difference_fault (session_case (over other taps) s) ≡ difference_fault (session_case (over stream taps) s)
    wrong-same =
        map-same (fault_of other) (fault_of stream) (λ m. ap (named m) (alike.offset (position_in m))) (difference (positions (over other taps) s) (due_to (over other taps) s))
        ∙ ap (λ ps. option_map (fault_of stream) (difference ps (due_to (over other taps) s))) positions-same
        ∙ ap (λ ps. option_map (fault_of stream) (difference (positions (over stream taps) s) ps)) due

    missed-same : missed (over other taps) s ≡ missed (over stream taps) s
    missed-same =
        ap (λ ps. filter (λ p. not (has_position ps p)) (due_to (over other taps) s)) positions-same
        ∙ ap (filter (λ p. not (has_position (positions (over stream taps) s) p))) due

    -- what the client's tap shows of it shows over the other stream
    shown : (whole : Bool) (fault : Fault) → HoldsOf (over stream taps) whole s fault → HoldsOf (over other taps) whole s fault
    shown whole NoLog holds = absurd holds
    shown whole Chain holds = absurd holds
    shown whole Order holds = absurd holds
    shown whole Client holds = absurd holds
    shown whole Names (stay, among, differs) = (stay, subst (λ xs. Contains xs stay) (sym stays) among, differs)
    shown whole Frame holds = holds
    shown whole Orphan holds = ap (list_any is_orphan) tells.stays_are ∙ holds
    shown whole (Content off) (altered, first, is) =
        (altered, altered-there (received_by (over stream taps) s) (received_by (over other taps) s) altered frames (tells.entries_are s.who.pid) first, is ∙ sym (alike.offset altered.position))
    shown whole (Extra off) holds = wrong-same ∙ holds
    shown whole (Doubled off) holds = wrong-same ∙ holds
    shown whole (Swapped off) holds = wrong-same ∙ holds
    shown whole (Lost off) holds = wrong-same ∙ holds
    shown whole (Window connection) holds = window-same [] (own_stays (over other taps) s) ∙ ap (wrong_window stream []) stays ∙ holds
    shown whole (Tail n) (asked, some, is) = (asked, some, is ∙ ap length (sym missed-same))

  shown_of : (whole : Bool) (fault : Fault) → (s : SessionLogs) × IsSession (over stream taps) pid s × HoldsOf (over stream taps) whole s fault
      → (s : SessionLogs) × IsSession (over other taps) pid s × HoldsOf (over other taps) whole s fault
  shown_of whole fault (s, is, holds) = (s, session-over stream other taps pid s is, shown s is whole fault holds)

  -- a fault that holds over the stream holds over the other
  pub same_fault : (whole : Bool) (fault : Fault) → Holds (over stream taps) whole pid fault → Holds (over other taps) whole pid fault
  same_fault whole NoLog holds = holds
  same_fault whole Chain holds = λ who turns names chain. holds who turns names (chain-over other stream taps who turns chain)
  same_fault whole Order holds =
      record {
        who = holds.who;
        turns = holds.turns;
        names = holds.names;
        chain = chain-over stream other taps holds.who holds.turns holds.chain;
        turn = holds.turn;
        among = holds.among;
        unordered = ordered-same stream other alike.place (node_log (over stream taps) holds.turn.node) ∙ holds.unordered;
      }
  same_fault whole Client holds = holds
  same_fault whole Names holds = shown_of whole Names holds
  same_fault whole Frame holds = shown_of whole Frame holds
  same_fault whole Orphan holds = shown_of whole Orphan holds
  same_fault whole (Content off) holds = shown_of whole (Content off) holds
  same_fault whole (Extra off) holds = shown_of whole (Extra off) holds
  same_fault whole (Doubled off) holds = shown_of whole (Doubled off) holds
  same_fault whole (Swapped off) holds = shown_of whole (Swapped off) holds
  same_fault whole (Lost off) holds = shown_of whole (Lost off) holds
  same_fault whole (Window connection) holds = shown_of whole (Window connection) holds
  same_fault whole (Tail n) holds = shown_of whole (Tail n) holds

-- the verdict on the session is its verdict over the other stream
pub same_verdict : (stream other : List StreamRec) (taps : List Tap) (pid : Text) → AreAlike stream other taps pid → (whole : Bool) (verdict : Verdict)
    → IsVerdict (over stream taps) whole pid verdict → IsVerdict (over other taps) whole pid verdict
same_verdict stream other taps pid alike whole (Yes got tail turns) is =
    let back = turned stream other taps pid alike in
    record {
      none_holds = λ fault holds. is.none_holds fault (same_fault other stream taps pid back whole fault holds);
      session = is.session;
      is_session = session-over stream other taps pid is.session is.is_session;
      got_is = is.got_is ∙ ap length (sym (frames stream other taps pid alike is.session is.is_session));
      tail_is = is.tail_is ∙ ap length (sym (due stream other taps pid alike is.session is.is_session));
      turns_are = is.turns_are;
    }
same_verdict stream other taps pid alike whole (No fault) is =
    let back = turned stream other taps pid alike in
    record {
      holds = same_fault stream other taps pid alike whole fault is.holds;
      none_before = λ earlier before holds. is.none_before earlier before (same_fault other stream taps pid back whole earlier holds);
    }
