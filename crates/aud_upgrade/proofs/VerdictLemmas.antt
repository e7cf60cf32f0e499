-- Verdicts over taps that differ in how their nodes' takes are written alone.
use Rattle.std.proofs.Common.{◌≡◌, ℕ, zero, suc, Bool, true, false, List, [], ◌∷◌, length, take, drop, slice_get, IsSome, refl, sym, ap, subst, ◌∙◌, arith, not, true≢false}
use Rattle.std.specs.List.{Contains, filter}
use Rattle.aud_tap.specs.declared.records.StreamRec.{StreamRec}
use Rattle.aud_tap.specs.declared.records.NodeRec.{NodeRec}
use Rattle.aud_tap.specs.declared.records.NodeRec.TheVariants.{Start, Take, Takes, Opened, Join, Leave, Broke, Back, Gone}
use Rattle.aud_tap.specs.declared.taps.Tap.{Tap}
use Rattle.aud_node.specs.Stream.{Text}
use Rattle.aud_node.specs.Cluster.{node_log}
use Rattle.aud_node.specs.Ordered.{is_ordered}
use Rattle.aud_node.specs.TurnRecords.{begins_turn}
use Rattle.aud_rooms.specs.Turns.{Turn}
use Rattle.aud_cert.specs.declared.fault.Fault.{Fault}
use Rattle.aud_cert.specs.declared.fault.Fault.TheVariants.{NoLog, Chain, Order, Client, Names, Frame, Orphan, Content, Extra, Doubled, Swapped, Lost, Window, Tail}
use Rattle.aud_check.specs.Faults.{Case, difference_fault, positions_in}
use Rattle.aud_check.specs.Difference.{has_position}
use Rattle.aud_check.specs.Frames.{IsFirstAltered, wrong_window}
use Rattle.aud_check.specs.Shown.{recs_or_none}
use Rattle.aud_client.specs.Received.{transcript_of, received_list, stays_naming}
use Rattle.aud_verdict.specs.declared.verdict.Verdict.{Verdict}
use Rattle.aud_verdict.specs.declared.verdict.Verdict.TheVariants.{Yes, No}
use Rattle.aud_verdict.specs.Session.{SessionLogs, IsSession, transcript, own_stays, received_by, due_to, session_case, missed}
use Rattle.aud_verdict.specs.Faults.{HoldsOf, Holds}
use Rattle.aud_verdict.specs.Verdict.{IsVerdict}
use Rattle.aud_upgrade.specs.Private.Told.{is_taking}
use Rattle.aud_upgrade.specs.Private.Alike.{AreAlike, Matched}
use Rattle.aud_upgrade.specs.Private.Same.{over, AreAllSame, AreAlikeTaps}
use Rattle.aud_upgrade.proofs.TurnLemmas.{matched}
use Rattle.aud_upgrade.proofs.ListLemmas.{parts_at, at_seam}
use Rattle.aud_upgrade.proofs.ChainLemmas.{same_chain, same_count}
use Rattle.aud_upgrade.proofs.DueLemmas.{same_due}

-- what is alike one way is so the other way
pub turned_round : (stream : List StreamRec) (taps taps' : List Tap) → AreAlikeTaps stream taps taps' → AreAlikeTaps stream taps' taps
turned_round stream taps taps' alike =
    record {
      logs = λ place. record { tells = sym (alike.logs place).tells; ends = sym (alike.logs place).ends };
      orders = λ place. sym (alike.orders place);
      clients = λ place. sym (alike.clients place);
      naming = λ pid. sym (alike.naming pid);
    }

-- a record that begins a turn takes nothing
begins-quiet : (pid : Text) (k : ℕ) (rec : NodeRec) → begins_turn pid k rec ≡ true → is_taking rec ≡ false
begins-quiet pid k (Start off) e = refl
begins-quiet pid zero (Take off) e = absurd (true≢false (sym e))
begins-quiet pid zero (Takes off) e = absurd (true≢false (sym e))
begins-quiet pid (suc k) (Take off) e = absurd (true≢false (sym e))
begins-quiet pid (suc k) (Takes off) e = absurd (true≢false (sym e))
begins-quiet pid k (Opened other sid nsp) e = refl
begins-quiet pid k (Join other room) e = refl
begins-quiet pid k (Leave other room) e = refl
begins-quiet pid k (Broke other turn) e = refl
begins-quiet pid k (Back other turn) e = refl
begins-quiet pid k (Gone other) e = refl

-- a turn that has a match has the same node's log in order
unordered-among : (stream : List StreamRec) (taps taps' : List Tap) → AreAlikeTaps stream taps taps' → (ts ts' : List Turn) → AreAllSame stream taps taps' ts ts' → (t : Turn) → Contains ts t
    → is_ordered stream (node_log (over stream taps) t.node) ≡ false → (t' : Turn) × Contains ts' t' × (is_ordered stream (node_log (over stream taps') t'.node) ≡ false)
unordered-among stream taps taps' alike [] ts' all t (k, within, at) unordered = absurd (omega (arith, within))
unordered-among stream taps taps' alike (x ∷ ts) [] all t among unordered = absurd all
unordered-among stream taps taps' alike (x ∷ ts) (x' ∷ ts') all t (zero, within, at) unordered =
    let node : t.node ≡ x'.node = sym (ap (λ (u : Turn). u.node) at) ∙ sym all.0.node in
    (x', (0, omega arith, refl), sym (alike.orders x'.node) ∙ ap (λ n. is_ordered stream (node_log (over stream taps) n)) (sym node) ∙ unordered)
unordered-among stream taps taps' alike (x ∷ ts) (x' ∷ ts') all t (suc k, within, at) unordered =
    let (t', (k', within', at'), unordered') = unordered-among stream taps taps' alike ts ts' all.1 t (k, omega (arith, within), at) unordered in
    (t', (suc k', omega (arith, within'), at'), unordered')

module _ (stream : List StreamRec) (taps taps' : List Tap) (alike : AreAlikeTaps stream taps taps') where
  back : AreAlikeTaps stream taps' taps
  back = turned_round stream taps taps' alike

  -- the session that a session is in the other taps
  pub record SameSession (pid : Text) (s : SessionLogs) : Type 0 where
    pub turns : List Turn
    pub is : IsSession (over stream taps') pid (record s { turns = turns })
    pub count : length s.turns ≡ length turns
    pub due : due_to (over stream taps') (record s { turns = turns }) ≡ due_to (over stream taps) s

  pub same_session : (pid : Text) (s : SessionLogs) → IsSession (over stream taps) pid s → SameSession pid s
  same_session pid s is =
      let (turns, chain, all) = same_chain stream taps taps' alike.logs back.logs s.who s.turns is.chain in
      record {
        turns = turns;
        is = record { names = is.names; chain = chain; only = sym (alike.naming pid) ∙ is.only };
        count = same_count stream taps taps' alike.logs s.turns turns all;
        due = same_due stream taps taps' s.who s.turns turns all;
      }

  -- what a client's tap tells
  tells : (pid : Text) (s : SessionLogs) (h : SameSession pid s) → transcript (over stream taps') (record s { turns = h.turns }) ≡ transcript (over stream taps) s
  tells pid s h = ap (λ recs. transcript_of stream (recs_or_none recs)) (sym (alike.clients s.client))

  stays : (pid : Text) (s : SessionLogs) (h : SameSession pid s) → own_stays (over stream taps') (record s { turns = h.turns }) ≡ own_stays (over stream taps) s
  stays pid s h = ap (λ recs. stays_naming s.who.pid (transcript_of stream (recs_or_none recs)).stays) (sym (alike.clients s.client))

  pub frames : (pid : Text) (s : SessionLogs) (h : SameSession pid s) → received_by (over stream taps') (record s { turns = h.turns }) ≡ received_by (over stream taps) s
  frames pid s h = ap (λ recs. received_list stream (recs_or_none recs) s.who.pid) (sym (alike.clients s.client))

  case : (pid : Text) (s : SessionLogs) (h : SameSession pid s) → session_case (over stream taps') (record s { turns = h.turns }) ≡ session_case (over stream taps) s
  case pid s h =
      ap
      (λ recs.
      record {
        stream = stream;
        transcript = transcript_of stream (recs_or_none recs);
        stays = stays_naming s.who.pid (transcript_of stream (recs_or_none recs)).stays;
        frames = received_list stream (recs_or_none recs) s.who.pid;
        due = due_to (over stream taps') (record s { turns = h.turns });
      })
      (sym (alike.clients s.client))
      ∙ ap (λ due. record (session_case (over stream taps) s) { due = due }) h.due

  missed-same : (pid : Text) (s : SessionLogs) (h : SameSession pid s) → missed (over stream taps') (record s { turns = h.turns }) ≡ missed (over stream taps) s
  missed-same pid s h = ap (λ (k : Case). filter (λ p. not (has_position (positions_in k) p)) k.due) (case pid s h)

  -- what a client's tap shows of a session shows in the other taps
  shown : (whole : Bool) (pid : Text) (s : SessionLogs) (h : SameSession pid s) (fault : Fault) → HoldsOf (over stream taps) whole s fault → HoldsOf (over stream taps') whole (record s { turns = h.turns }) fault
  shown whole pid s h NoLog holds = absurd holds
  shown whole pid s h Chain holds = absurd holds
  shown whole pid s h Order holds = absurd holds
  shown whole pid s h Client holds = absurd holds
  shown whole pid s h Names (stay, among, other) = (stay, subst (λ xs. Contains xs stay) (sym (stays pid s h)) among, other)
  shown whole pid s h Frame holds = subst (λ t. IsSome t.bad) (sym (tells pid s h)) holds
  shown whole pid s h Orphan holds = ap (λ t. t.orphan) (tells pid s h) ∙ holds
  shown whole pid s h (Content off) (altered, first, is) = (altered, subst (λ xs. IsFirstAltered stream xs altered) (sym (frames pid s h)) first, is)
  shown whole pid s h (Extra off) holds = ap difference_fault (case pid s h) ∙ holds
  shown whole pid s h (Doubled off) holds = ap difference_fault (case pid s h) ∙ holds
  shown whole pid s h (Swapped off) holds = ap difference_fault (case pid s h) ∙ holds
  shown whole pid s h (Lost off) holds = ap difference_fault (case pid s h) ∙ holds
  shown whole pid s h (Window connection) holds = ap (wrong_window stream []) (stays pid s h) ∙ holds
  shown whole pid s h (Tail n) (asked, some, is) = (asked, some, is ∙ ap length (sym (missed-same pid s h)))

  shown_of : (whole : Bool) (pid : Text) (fault : Fault) → (s : SessionLogs) × IsSession (over stream taps) pid s × HoldsOf (over stream taps) whole s fault
      → (s : SessionLogs) × IsSession (over stream taps') pid s × HoldsOf (over stream taps') whole s fault
  shown_of whole pid fault (s, is, holds) = let h = same_session pid s is in (record s { turns = h.turns }, h.is, shown whole pid s h fault holds)

  -- a fault that holds in the taps holds in the others
  pub same_fault : (whole : Bool) (pid : Text) (fault : Fault) → Holds (over stream taps) whole pid fault → Holds (over stream taps') whole pid fault
  same_fault whole pid NoLog holds = λ node i rec at begins.
      let log' = node_log (over stream taps') node in
      let log = node_log (over stream taps) node in
      let m : Matched stream 0 0 (take i log') rec (drop (suc i) log') 0 0 log =
      matched stream 0 0 (take i log') rec (drop (suc i) log') 0 0 log (begins-quiet pid 0 rec begins) (subst (λ xs. AreAlike stream 0 0 xs 0 0 log) (parts_at log' i rec at) (back.logs node)) in
      holds node (length m.front') rec (ap (λ xs. slice_get xs (length m.front')) m.is ∙ at_seam m.front' rec m.back') begins
  same_fault whole pid Chain holds = λ who turns names chain.
      let (ts, chain', all) = same_chain stream taps' taps back.logs alike.logs who turns chain in
      holds who ts names chain'
  same_fault whole pid Order holds =
      let (ts', chain', all) = same_chain stream taps taps' alike.logs back.logs holds.who holds.turns holds.chain in
      let (t', among', unordered') = unordered-among stream taps taps' alike holds.turns ts' all holds.turn holds.among holds.unordered in
      record { who = holds.who; turns = ts'; names = holds.names; chain = chain'; turn = t'; among = among'; unordered = unordered' }
  same_fault whole pid Client holds = λ one. holds (ap length (alike.naming pid) ∙ one)
  same_fault whole pid Names holds = shown_of whole pid Names holds
  same_fault whole pid Frame holds = shown_of whole pid Frame holds
  same_fault whole pid Orphan holds = shown_of whole pid Orphan holds
  same_fault whole pid (Content off) holds = shown_of whole pid (Content off) holds
  same_fault whole pid (Extra off) holds = shown_of whole pid (Extra off) holds
  same_fault whole pid (Doubled off) holds = shown_of whole pid (Doubled off) holds
  same_fault whole pid (Swapped off) holds = shown_of whole pid (Swapped off) holds
  same_fault whole pid (Lost off) holds = shown_of whole pid (Lost off) holds
  same_fault whole pid (Window connection) holds = shown_of whole pid (Window connection) holds
  same_fault whole pid (Tail n) holds = shown_of whole pid (Tail n) holds

-- the verdict on a session is its verdict over the other taps
pub same_verdict : (stream : List StreamRec) (taps taps' : List Tap) → AreAlikeTaps stream taps taps' → (whole : Bool) (pid : Text) (verdict : Verdict) → IsVerdict (over stream taps) whole pid verdict → IsVerdict (over stream taps') whole pid verdict
same_verdict stream taps taps' alike whole pid (Yes got tail turns) is =
    let back = turned_round stream taps taps' alike in
    let h = same_session stream taps taps' alike pid is.session is.is_session in
    record {
      none_holds = λ fault holds. is.none_holds fault (same_fault stream taps' taps back whole pid fault holds);
      session = record is.session { turns = h.turns };
      is_session = h.is;
      got_is = is.got_is ∙ ap length (sym (frames stream taps taps' alike pid is.session h));
      tail_is = is.tail_is ∙ ap length (sym h.due);
      turns_are = is.turns_are ∙ h.count;
    }
same_verdict stream taps taps' alike whole pid (No fault) is =
    let back = turned_round stream taps taps' alike in
    record {
      holds = same_fault stream taps taps' alike whole pid fault is.holds;
      none_before = λ other before holds. is.none_before other before (same_fault stream taps' taps back whole pid other holds);
    }
