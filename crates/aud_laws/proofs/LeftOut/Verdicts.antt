-- Verdicts over taps that carry all that a verdict rests on over to others.
use Rattle.std.proofs.Common.{◌≡◌, ℕ, List, [], length, IsSome, sym, ap, subst, ◌∙◌, not, Bool}
use Rattle.std.specs.List.{Contains, filter}
use Rattle.aud_tap.specs.declared.records.StreamRec.{StreamRec}
use Rattle.aud_tap.specs.declared.taps.Tap.{Tap}
use Rattle.aud_node.specs.Stream.{Text}
use Rattle.aud_node.specs.NodeTaps.{client_at}
use Rattle.aud_rooms.specs.Turns.{Who, Turn, IsChain, HasNoTurn}
use Rattle.aud_cert.specs.declared.fault.Fault.{Fault}
use Rattle.aud_cert.specs.declared.fault.Fault.TheVariants.{NoLog, Chain, Order, Client, Names, Frame, Orphan, Content, Extra, Doubled, Swapped, Lost, Window, Tail}
use Rattle.aud_check.specs.Faults.{Case, difference_fault, positions_in}
use Rattle.aud_check.specs.Difference.{has_position}
use Rattle.aud_check.specs.Frames.{IsFirstAltered, wrong_window}
use Rattle.aud_check.specs.Shown.{recs_or_none}
use Rattle.aud_client.specs.Received.{transcript_of, received_list, stays_naming}
use Rattle.aud_verdict.specs.declared.verdict.Verdict.{Verdict}
use Rattle.aud_verdict.specs.declared.verdict.Verdict.TheVariants.{Yes, No}
use Rattle.aud_verdict.specs.Session.{SessionLogs, IsSession, transcript, own_stays, received_by, due_to, session_case, missed}
use Rattle.aud_verdict.specs.Faults.{HoldsOf, Holds}
use Rattle.aud_verdict.specs.Verdict.{IsVerdict}
use Rattle.aud_laws.proofs.LeftOut.Logs.{over}
use Rattle.aud_laws.proofs.LeftOut.Carried.{CarriedChain}
use Rattle.aud_laws.proofs.LeftOut.Clients.{naming_logs, one_place, naming-count}

-- what a verdict on the session rests on carries over from these taps to others
pub record Carries (stream : List StreamRec) (taps others : List Tap) (pid : Text) : Type 0 where
  pub no_turn : HasNoTurn (over stream taps) pid 0 → HasNoTurn (over stream others) pid 0
  pub chain : (who : Who) (ts : List Turn) → who.pid ≡ pid → IsChain (over stream taps) who ts → CarriedChain stream taps others who ts
  pub naming : naming_logs taps pid ≡ naming_logs others pid

-- the session with these turns and this client
abbrev pub moved_to : SessionLogs → List Turn → ℕ → SessionLogs
moved_to s turns client = record { who = s.who; turns = turns; client = client }

-- the session that a session is in the other taps
pub record OtherSession (stream : List StreamRec) (taps others : List Tap) (pid : Text) (s : SessionLogs) : Type 0 where
  pub turns : List Turn
  pub client : ℕ
  pub is : IsSession (over stream others) pid (moved_to s turns client)
  pub count : length s.turns ≡ length turns
  pub due : due_to (over stream others) (moved_to s turns client) ≡ due_to (over stream taps) s
  pub log : client_at (over stream others) client ≡ client_at (over stream taps) s.client

module _ (stream : List StreamRec) (taps others : List Tap) where
  module _ (pid : Text) (s : SessionLogs) (h : OtherSession stream taps others pid s) where
    abbrev other : SessionLogs
    other = moved_to s h.turns h.client

    -- what its client's tap tells
    tells : transcript (over stream others) other ≡ transcript (over stream taps) s
    tells = ap (λ recs. transcript_of stream (recs_or_none recs)) h.log

    stays : own_stays (over stream others) other ≡ own_stays (over stream taps) s
    stays = ap (λ recs. stays_naming s.who.pid (transcript_of stream (recs_or_none recs)).stays) h.log

    pub frames : received_by (over stream others) other ≡ received_by (over stream taps) s
    frames = ap (λ recs. received_list stream (recs_or_none recs) s.who.pid) h.log

    case : session_case (over stream others) other ≡ session_case (over stream taps) s
    case =
        ap
        (λ recs.
        record {
          stream = stream;
          transcript = transcript_of stream (recs_or_none recs);
          stays = stays_naming s.who.pid (transcript_of stream (recs_or_none recs)).stays;
          frames = received_list stream (recs_or_none recs) s.who.pid;
          due = due_to (over stream others) other;
        })
        h.log
        ∙ ap (λ due. record (session_case (over stream taps) s) { due = due }) h.due

    missed-same : missed (over stream others) other ≡ missed (over stream taps) s
    missed-same = ap (λ (k : Case). filter (λ p. not (has_position (positions_in k) p)) k.due) case

    -- what a client's tap shows of a session shows in the other taps
    shown : (whole : Bool) (fault : Fault) → HoldsOf (over stream taps) whole s fault → HoldsOf (over stream others) whole (moved_to s h.turns h.client) fault
    shown whole NoLog holds = absurd holds
    shown whole Chain holds = absurd holds
    shown whole Order holds = absurd holds
    shown whole Client holds = absurd holds
    shown whole Names (stay, among, differs) = (stay, subst (λ xs. Contains xs stay) (sym stays) among, differs)
    shown whole Frame holds = subst (λ t. IsSome t.bad) (sym tells) holds
    shown whole Orphan holds = ap (λ t. t.orphan) tells ∙ holds
    shown whole (Content off) (altered, first, is) = (altered, subst (λ xs. IsFirstAltered stream xs altered) (sym frames) first, is)
    shown whole (Extra off) holds = ap difference_fault case ∙ holds
    shown whole (Doubled off) holds = ap difference_fault case ∙ holds
    shown whole (Swapped off) holds = ap difference_fault case ∙ holds
    shown whole (Lost off) holds = ap difference_fault case ∙ holds
    shown whole (Window connection) holds = ap (wrong_window stream []) stays ∙ holds
    shown whole (Tail n) (asked, some, is) = (asked, some, is ∙ ap length (sym missed-same))

  module _ (pid : Text) (carries : Carries stream taps others pid) where
    other_session : (s : SessionLogs) → IsSession (over stream taps) pid s → OtherSession stream taps others pid s
    other_session s is =
        let carried = carries.chain s.who s.turns is.names is.chain in
        let place = one_place taps others pid s.client carries.naming is.only in
        record {
          turns = carried.turns;
          client = place.other;
          is = record { names = is.names; chain = carried.is; only = place.only };
          count = carried.count;
          due = carried.due;
          log = place.same;
        }

    shown_of : (whole : Bool) (fault : Fault) → (s : SessionLogs) × IsSession (over stream taps) pid s × HoldsOf (over stream taps) whole s fault
        → (s : SessionLogs) × IsSession (over stream others) pid s × HoldsOf (over stream others) whole s fault
    shown_of whole fault (s, is, holds) = let h = other_session s is in (moved_to s h.turns h.client, h.is, shown pid s h whole fault holds)

    -- a fault that holds in the taps holds in the others
    pub same_fault : (whole : Bool) (fault : Fault) → Holds (over stream taps) whole pid fault → (Carries stream others taps pid) → Holds (over stream others) whole pid fault
    same_fault whole NoLog holds back = carries.no_turn holds
    same_fault whole Chain holds back = λ who turns names chain. (let was = back.chain who turns names chain in holds who was.turns names was.is)
    same_fault whole Order holds back =
        let carried = carries.chain holds.who holds.turns holds.names holds.chain in
        let (other, among, unordered) = carried.unordered holds.turn holds.among holds.unordered in
        record { who = holds.who; turns = carried.turns; names = holds.names; chain = carried.is; turn = other; among = among; unordered = unordered }
    same_fault whole Client holds back = λ one. holds (sym (naming-count taps others pid carries.naming) ∙ one)
    same_fault whole Names holds back = shown_of whole Names holds
    same_fault whole Frame holds back = shown_of whole Frame holds
    same_fault whole Orphan holds back = shown_of whole Orphan holds
    same_fault whole (Content off) holds back = shown_of whole (Content off) holds
    same_fault whole (Extra off) holds back = shown_of whole (Extra off) holds
    same_fault whole (Doubled off) holds back = shown_of whole (Doubled off) holds
    same_fault whole (Swapped off) holds back = shown_of whole (Swapped off) holds
    same_fault whole (Lost off) holds back = shown_of whole (Lost off) holds
    same_fault whole (Window connection) holds back = shown_of whole (Window connection) holds
    same_fault whole (Tail n) holds back = shown_of whole (Tail n) holds

-- the verdict on the session is its verdict over the other taps
pub same_verdict : (stream : List StreamRec) (taps others : List Tap) (pid : Text) → Carries stream taps others pid → Carries stream others taps pid → (whole : Bool) (verdict : Verdict)
    → IsVerdict (over stream taps) whole pid verdict → IsVerdict (over stream others) whole pid verdict
same_verdict stream taps others pid there back whole (Yes got tail turns) is =
    let h = other_session stream taps others pid there is.session is.is_session in
    record {
      none_holds = λ fault holds. is.none_holds fault (same_fault stream others taps pid back whole fault holds there);
      session = moved_to is.session h.turns h.client;
      is_session = h.is;
      got_is = is.got_is ∙ ap length (sym (frames stream taps others pid is.session h));
      tail_is = is.tail_is ∙ ap length (sym h.due);
      turns_are = is.turns_are ∙ h.count;
    }
same_verdict stream taps others pid there back whole (No fault) is =
    record {
      holds = same_fault stream taps others pid there whole fault is.holds back;
      none_before = λ other before holds. is.none_before other before (same_fault stream others taps pid back whole other holds there);
    }
