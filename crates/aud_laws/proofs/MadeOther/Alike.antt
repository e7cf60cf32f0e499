-- Two streams that are alike for a session: all that a verdict on it rests on is the same over both.
use Rattle.std.proofs.Common.{◌≡◌, ℕ, suc, List, [], ◌∷◌, map, sym, subst}
use Rattle.std.specs.List.{All}
use Rattle.std.proofs.lemmas.List.Elements.{All-weaker}
use Rattle.aud_tap.specs.declared.records.StreamRec.{StreamRec}
use Rattle.aud_tap.specs.declared.records.ClientRec.{ClientRec}
use Rattle.aud_tap.specs.declared.taps.Tap.{Tap}
use Rattle.aud_node.specs.NodeTaps.{client_at}
use Rattle.aud_node.specs.Stream.{Text, position}
use Rattle.aud_client.specs.Received.{received_list}
use Rattle.aud_client.specs.Replies.{naming_places}
use Rattle.aud_rooms.specs.Turns.{Who, Turn, slice_of, End, ByBreak, ByGone, ByLog, MayEnd, AreTurns, IsChain}
use Rattle.aud_rooms.specs.TurnsDue.{turns_due}
use Rattle.aud_check.specs.Frames.{offset_at}
use Rattle.aud_check.specs.Shown.{recs_or_none}
use Rattle.aud_verdict.specs.Session.{SessionLogs, IsSession}
use Rattle.aud_laws.proofs.LeftOut.Logs.{over}
use Rattle.aud_laws.proofs.MadeOther.Packets.{HasSameEntry, TellsAlike}

-- positions of offsets, offsets at positions, what is due by a chain, and what the tap of its one client tells
pub record AreAlike (stream other : List StreamRec) (taps : List Tap) (pid : Text) : Type 0 where
  pub place : (off : Text) → position other off ≡ position stream off
  pub offset : (p : ℕ) → offset_at other p ≡ offset_at stream p
  pub due : (who : Who) (ts : List Turn) → who.pid ≡ pid → IsChain (over stream taps) who ts
      → turns_due other who (map (slice_of (over other taps)) ts) ≡ turns_due stream who (map (slice_of (over stream taps)) ts)
  pub tells : (client : ℕ) → naming_places taps pid ≡ client ∷ [] → TellsAlike stream other (recs_or_none (client_at (over stream taps) client))

module _ (stream other : List StreamRec) (taps : List Tap) where
  may_end-over : (t : Turn) (later : List Turn) (end : End) → MayEnd (over stream taps) t later end → MayEnd (over other taps) t later end
  may_end-over t later ByBreak may = may
  may_end-over t later ByGone may = may
  may_end-over t later ByLog may = may

  -- turns are turns, whichever the stream
  turns-over : (who : Who) (k : ℕ) (ts : List Turn) → AreTurns (over stream taps) who k ts → AreTurns (over other taps) who k ts
  turns-over who k [] are = tt
  turns-over who k (t ∷ later) are =
      let is = are.0 in
      (record { within = is.within; some = is.some; begins = is.begins; end = is.end; ends = is.ends; may_end = may_end-over t later is.end is.may_end }, turns-over who (suc k) later are.1)

  pub chain-over : (who : Who) (ts : List Turn) → IsChain (over stream taps) who ts → IsChain (over other taps) who ts
  chain-over who ts chain = record { some = chain.some; are_turns = turns-over who 0 ts chain.are_turns; covers = chain.covers }

  pub session-over : (pid : Text) (s : SessionLogs) → IsSession (over stream taps) pid s → IsSession (over other taps) pid s
  session-over pid s is = record { names = is.names; chain = chain-over s.who s.turns is.chain; only = is.only }

-- the other way round
turned-tells : (stream other : List StreamRec) (recs : List ClientRec) → TellsAlike stream other recs → TellsAlike other stream recs
turned-tells stream other recs tells =
    record {
      stays_are = sym tells.stays_are;
      frames_are = λ pid. sym (tells.frames_are pid);
      entries_are = λ pid.
          subst (All (HasSameEntry other stream)) (sym (tells.frames_are pid))
          (All-weaker (HasSameEntry stream other) (HasSameEntry other stream) (λ frame same. sym same) (received_list stream recs pid) (tells.entries_are pid));
    }

pub turned : (stream other : List StreamRec) (taps : List Tap) (pid : Text) → AreAlike stream other taps pid → AreAlike other stream taps pid
turned stream other taps pid alike =
    record {
      place = λ off. sym (alike.place off);
      offset = λ p. sym (alike.offset p);
      due = λ who ts names chain. sym (alike.due who ts names (chain-over other stream taps who ts chain));
      tells = λ client only. turned-tells stream other (recs_or_none (client_at (over stream taps) client)) (alike.tells client only);
    }
