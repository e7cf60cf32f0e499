-- What is found by making a session's certificate and checking it is its verdict.
use Rattle.std.proofs.Common.{◌≡◌, ◌<◌, ◌+◌, ℕ, zero, suc, Bool, true, List, [], ◌∷◌, length, map, drop, slice_get, Some, refl, sym, ap, subst, ◌∙◌, arith, ◌≤◌, ◌-◌, ◌*◌, min, false, Option, None, unwrap_or, ◌⊎◌, inl, inr}
use Rattle.std.specs.List.{list_all}
use Rattle.std.specs.Option.{IsSome, option_and_then}
use Rattle.std.proofs.lemmas.Bool.{false≢true, and_parts, true≢false, cases_lt}
use Rattle.std.proofs.lemmas.Option.{none-some, same_Some}
use Rattle.std.proofs.lemmas.List.{length-map}
use Rattle.aud_tap.specs.declared.taps.Tap.{Tap}
use Rattle.aud_node.specs.Stream.{Text}
use Rattle.aud_node.specs.Cursors.{cursor_at}
use Rattle.aud_node.specs.Cluster.{Cluster, node_log}
use Rattle.aud_node.specs.Names.{AreNamedOnce}
use Rattle.aud_node.specs.NodeTaps.{client_at, client_recs}
use Rattle.aud_node.specs.TurnRecords.{begins_turn}
use Rattle.aud_node.proofs.RecordLemmas.{between-more}
use Rattle.aud_rooms.specs.Turns.{Who, Turn, beginning, IsTurn, AreTurns, IsChain, slice_of, HasNoTurn}
use Rattle.aud_rooms.specs.Spans.{AreSpansOfTurns}
use Rattle.aud_rooms.specs.TurnsDue.{turns_due}
use Rattle.aud_client.specs.Replies.{is_naming}
use Rattle.aud_client.specs.Received.{transcript_of, received_list, stays_naming}
use Rattle.aud_cert.specs.declared.fault.Fault.{Fault}
use Rattle.aud_cert.specs.Certificate.{TurnSeen, CertificateSeen, turn_at, place_named}
use Rattle.aud_cert.specs.declared.fault.Fault.TheVariants.{Names, Tail}
use Rattle.aud_maker.specs.Made.{name_at, turn_seen, is_turn_ordered, IsMade, tap_name}
use Rattle.aud_maker.specs.Faults as maker
use Rattle.aud_maker.proofs.Turns.{beginning-begins}
use Rattle.aud_maker.proofs.Over.{turns-there}
use Rattle.aud_maker.proofs.FirstFault.{not_unordered, none_holds}
use Rattle.aud_check.specs.declared.refusal.Refusal.{Refusal}
use Rattle.aud_check.specs.Shown.{opened_sid, opened_nsp, who_of, slices_of, turns_of, first_record, recs_or_none, shown_due, frames_received}
use Rattle.aud_check.specs.TurnRefusals.{IsTurnAccepted, AreTurnsAccepted}
use Rattle.aud_check.specs.Refusals.{Place, AtTurn, AtWhole, Refuses, RefusesWhole, RefusesFirst, IsFirstRefusal, IsAccepted, place_rank, certificate_case}
use Rattle.aud_check.specs.declared.refusal.Refusal.TheVariants as refused
use Rattle.aud_check.specs.NamedStays.{are_of_session}
use Rattle.aud_check.specs.Faults.{Case, HasFault, IsReceived, fault_rank, difference_fault}
use Rattle.aud_check.proofs.TurnRefusals.{not_refused}
use Rattle.aud_check.proofs.Ranks.{no_fault}
use Rattle.aud_verdict.specs.Refused.{fault_found, IsOfSession}
use Rattle.aud_verdict.specs.Session.{SessionLogs, IsSession, own_stays, due_to, session_case}
use Rattle.aud_verdict.specs.Faults.{HoldsOf, Holds, verdict_rank, HoldsFirst, NoneHolds}
use Rattle.aud_verdict.specs.Verdict.{IsYes}
use Rattle.aud_verdict.proofs.Sessions.{at_session, held, naming, other_names, not_of_session}

-- ---- turns of a made certificate

-- a turn of a made certificate is accepted
accepted-turn : (c : Cluster) (who : Who) (k : ℕ) (t : Turn) (later : List Turn) → IsTurn c who k t later → is_turn_ordered c t ≡ true
    → turn_at c (turn_seen c t) ≡ t → map (turn_at c) (map (turn_seen c) later) ≡ later → IsTurnAccepted c who.pid k (turn_seen c t) (map (turn_seen c) later)
accepted-turn c who k t later is ordered there those =
    let place : place_named c (name_at c t.node) ≡ t.node = ap (λ (x : Turn). x.node) there in
    let recs = between-more (node_log c t.node) t.from t.to (beginning who k) is.some is.begins in
    record {
      begins = rw recs (beginning-begins who k);
      ends = record { within = rw place is.within; end = is.end; is_end = rw recs is.ends; may_end = rw (there, those) is.may_end };
      cursors = record { ordered = rw place ordered; low_is = ap (λ (node : ℕ). cursor_at c.stream (node_log c node) (suc t.from)) (sym place); high_is = ap (λ (node : ℕ). cursor_at c.stream (node_log c node) t.to) (sym place) };
    }

-- two lists that are one have one first turn, and the same later ones
first_is : (a b : Turn) (left right : List Turn) → a ∷ left ≡ b ∷ right → (a ≡ b) × (left ≡ right)
first_is a b left right e = (cc, cc)

-- each turn of a made certificate is accepted, in ordered logs
accepted-from : (c : Cluster) (who : Who) (n : ℕ) (turns : List Turn) → AreTurns c who n turns → list_all (is_turn_ordered c) turns ≡ true
    → map (turn_at c) (map (turn_seen c) turns) ≡ turns → (k : ℕ) (t : TurnSeen) → slice_get (map (turn_seen c) turns) k ≡ Some t
    → IsTurnAccepted c who.pid (n + k) t (drop (suc k) (map (turn_seen c) turns))
accepted-from c who n [] are ordered there k t at = absurd (none-some t at)
accepted-from c who n (u ∷ us) are ordered there zero t at =
    let is : turn_seen c u ≡ t = cc in
    let same : n + 0 ≡ n = omega arith in
    let parts = first_is (turn_at c (turn_seen c u)) u (map (turn_at c) (map (turn_seen c) us)) us there in
    rw (← is, same) (accepted-turn c who n u us are.0 (and_parts (is_turn_ordered c u) (list_all (is_turn_ordered c) us) ordered).0 parts.0 parts.1)
accepted-from c who n (u ∷ us) are ordered there (suc k) t at =
    let same : n + suc k ≡ suc n + k = omega arith in
    let parts = first_is (turn_at c (turn_seen c u)) u (map (turn_at c) (map (turn_seen c) us)) us there in
    rw same (accepted-from c who (suc n) us are.1 (and_parts (is_turn_ordered c u) (list_all (is_turn_ordered c) us) ordered).1 parts.1 k t at)

-- the first record that a made certificate shows is the session's `open`
first-opened : (c : Cluster) (who : Who) (turns : List Turn) → 0 < length turns → AreTurns c who 0 turns → first_record (map (turn_seen c) turns) ≡ Some (beginning who 0)
first-opened c who [] some are = absurd (omega arith)
first-opened c who (t ∷ turns) some are = rw (between-more (node_log c t.node) t.from t.to (beginning who 0) are.0.some are.0.begins) refl

-- ---- refusals that show a fault

-- what refuses it is one of those, or running out of memory
pub of_session : (c : Cluster) (cert : CertificateSeen) (refusal : Refusal) → IsFirstRefusal c cert refusal
    → ((place : Place) → Refuses c cert place refusal → IsSome (fault_found refusal)) → IsOfSession refusal
of_session c cert refusal first so = grind (arith, so)

-- a refusal that shows a fault is the first
pub first_refusal : (c : Cluster) (cert : CertificateSeen) (refusal : Refusal) (fault : Fault) → IsFirstRefusal c cert refusal → fault_found refusal ≡ Some fault → RefusesFirst c cert refusal
first_refusal c cert refusal fault first e = grind arith

-- ---- the four faults without a certificate

-- what the making of a certificate finds is a fault of the verdict, in the same order
found : (c : Cluster) (pid : Text) (fault : Fault) → maker.HasMakeFault c pid fault → (verdict_rank fault < 4) × (maker.make_fault_rank fault ≡ verdict_rank fault) × Holds c false pid fault
found c pid fault h = grind arith

-- a fault of the verdict without a certificate is one that the making finds
known : (c : Cluster) (pid : Text) (fault : Fault) → verdict_rank fault < 4 → Holds c false pid fault → maker.HasMakeFault c pid fault × (maker.make_fault_rank fault ≡ verdict_rank fault)
known c pid fault front h = grind arith

-- where no certificate is made, the fault found is the verdict's first
pub not_made : (c : Cluster) (pid : Text) (fault : Fault) → maker.IsFirstMakeFault c pid fault → HoldsFirst c false pid fault
not_made c pid fault is =
    let (front, own, holds) = found c pid fault is.holds in
    record { holds = holds; none_before = λ other less h. (let (held, its) = known c pid other (omega arith) h in is.none_before other (omega arith) held) }

-- ---- a made certificate

-- where a fault of what was received stands in the two orders
abbrev pub Placed : Case → Fault → Type 0
Placed case f = (fault_rank f ≡ min (verdict_rank f - 5) 3 + (verdict_rank f - 11)) × (5 ≤ verdict_rank f) × (verdict_rank f ≤ 12) × (8 ≤ verdict_rank f → verdict_rank f ≤ 11 → difference_fault case ≡ Some f)

-- a fault of what was received comes in the verdict's order as in the check's
pub placed : (case : Case) (f : Fault) → HasFault case f → Placed case f
placed case f h = grind arith

-- so one that comes earlier in the verdict comes earlier in the check
pub lower : (case : Case) (g f : Fault) → verdict_rank g < verdict_rank f → HasFault case g → HasFault case f → fault_rank g < fault_rank f
lower case g f less h k =
    let (g_is, g_low, g_high, g_mismatch) = placed case g h in
    let (f_is, f_low, f_high, f_mismatch) = placed case f k in
    elim (cases_lt (fault_rank g) (fault_rank f)) [
      | inl before ↦ before
      | inr after ↦ (let one : verdict_rank g ≡ verdict_rank f = ap verdict_rank (same_Some g f (sym (g_mismatch (omega arith) (omega arith)) ∙ f_mismatch (omega arith) (omega arith))) in absurd (omega arith))
    ]

-- a fault of what was received comes after those that need no certificate
pub late : (case : Case) (f : Fault) → HasFault case f → 4 ≤ verdict_rank f
late case f h = let (is, low, high, mismatched) = placed case f h in omega arith

-- a fault of what was received is one of the session
pub as_held : (c : Cluster) (whole : Bool) (s : SessionLogs) (f : Fault) → HasFault (session_case c s) f → HoldsOf c whole s f
as_held c whole s f h = grind arith

module _ (c : Cluster) (pid : Text) (cert : CertificateSeen) (once : AreNamedOnce c.taps) (made : IsMade c pid cert) where
  -- its turns stand in the logs where those that it was made of stand
  pub there : turns_of c cert ≡ made.turns
  there = turns-there c pid cert once made

  -- its pid is that of the session
  named : cert.pid ≡ made.who.pid
  named = made.is.pid_is ∙ sym made.names

  -- the session that the certificate shows is the one that it was made for
  pub who_is : who_of cert ≡ made.who
  who_is =
      let opened : first_record cert.turns ≡ Some (beginning made.who 0) = ap first_record made.is.turns_are ∙ first-opened c made.who made.turns made.chain.some made.chain.are_turns in
      λ i. record { pid = named i; sid = opened_sid (opened i); nsp = opened_nsp (opened i) }

  -- it shows all of its turns
  pub whole : IsChain c (who_of cert) (turns_of c cert)
  whole = subst (λ (w : Who). IsChain c w (turns_of c cert)) (sym who_is) (subst (IsChain c made.who) (sym there) made.chain)

  -- each of its turns is accepted
  pub turns_accepted : AreTurnsAccepted c cert.pid cert.turns
  turns_accepted k t at =
      let seen = made.is.turns_are in
      let those : map (turn_at c) (map (turn_seen c) made.turns) ≡ made.turns = ap (map (turn_at c)) (sym seen) ∙ there in
      let found : slice_get (map (turn_seen c) made.turns) k ≡ Some t = ap (λ (ts : List TurnSeen). slice_get ts k) (sym seen) ∙ at in
      let accepted = accepted-from c made.who 0 made.turns made.chain.are_turns made.ordered those k t found in
      let same : 0 + k ≡ k = omega arith in
      rw (named, seen) (rw same at accepted)

  -- its spans are those of its turns
  pub spans_accepted : AreSpansOfTurns c.stream (who_of cert) (slices_of c cert) cert.spans
  spans_accepted = rw (there, who_is) (rw (sym made.names) at (made.is.spans_are made.who.nsp))

  -- what refuses it as a whole shows a fault
  refused_whole : (refusal : Refusal) → RefusesWhole c cert refusal → IsSome (fault_found refusal)
  refused_whole refusal refuses = grind (arith, spans_accepted)

  -- it is refused for its names or for what the client received alone
  pub refused_for : (place : Place) (refusal : Refusal) → Refuses c cert place refusal → IsSome (fault_found refusal)
  refused_for (AtTurn k) refusal (t, at, refuses) = absurd (not_refused c cert.pid k t (drop (suc k) cert.turns) (turns_accepted k t at) refusal refuses)
  refused_for AtWhole refusal refuses = refused_whole refusal refuses

  -- the session that it was made for
  abbrev session : SessionLogs
  session = record { who = made.who; turns = made.turns; client = made.client.place }

  -- the logs have that session
  is_session : IsSession c pid session
  is_session = record { names = made.names; chain = made.chain; only = made.client.only }

  -- its client's name is that of the session's one client tap
  place_is : place_named c cert.client ≡ made.client.place
  place_is = go (slice_get c.taps made.client.place) refl (naming c pid session is_session)
    where
      go : (tap : Option Tap) → slice_get c.taps made.client.place ≡ tap → is_naming pid (option_and_then client_recs tap) ≡ true → place_named c cert.client ≡ made.client.place
      go None at e = absurd (false≢true e)
      go (Some tap) at e = ap (place_named c) (made.client.name_is ∙ ap tap_name at) ∙ ap (λ o. unwrap_or o (length c.taps)) (once made.client.place tap at)

  -- what is due by the turns shown is what is due to the session
  due_is : shown_due c cert ≡ due_to c session
  due_is = λ i. turns_due c.stream (who_is i) (map (slice_of c) (there i))

  -- what was received against what was due is the same of the certificate and of the session
  case_is : certificate_case c cert ≡ session_case c session
  case_is = λ i. record {
    stream = c.stream;
    transcript = transcript_of c.stream (recs_or_none (client_at c (place_is i)));
    stays = stays_naming (named i) (transcript_of c.stream (recs_or_none (client_at c (place_is i)))).stays;
    frames = received_list c.stream (recs_or_none (client_at c (place_is i))) (named i);
    due = due_is i;
  }

  -- so is whether all stays that name the session are of it
  stays_same : are_of_session (who_of cert) (certificate_case c cert).stays ≡ are_of_session made.who (own_stays c session)
  stays_same = λ i. are_of_session (who_is i) (case_is i).stays

  -- ---- none of the four faults holds

  -- the session was opened
  logged : HasNoTurn c pid 0 → ⊥
  logged = go made.turns made.chain.some made.chain.are_turns
    where
      go : (turns : List Turn) → 0 < length turns → AreTurns c made.who 0 turns → HasNoTurn c pid 0 → ⊥
      go [] some are no_turn = absurd (omega arith)
      go (t ∷ later) some are no_turn =
          no_turn t.node t.from (beginning made.who 0) are.0.begins
          (ap (λ p. begins_turn p 0 (beginning made.who 0)) (sym made.names) ∙ beginning-begins made.who 0)

  -- none of the four faults without a certificate holds
  none_early : (fault : Fault) → verdict_rank fault < 4 → Holds c false pid fault → ⊥
  none_early fault front h =
      none_holds c pid logged (λ no_chain. no_chain made.who made.turns made.names made.chain)
      (not_unordered c made.who pid made.turns made.names made.chain made.ordered) (ap (λ (ns : List ℕ). length ns) made.client.only) fault
      (known c pid fault front h).0

  -- ---- accepted

  module _ (is : IsAccepted c cert) where
    -- nor does any of the others
    none_late : (fault : Fault) → HoldsOf c false session fault → ⊥
    none_late Names h = true≢false (sym is.are_named ∙ stays_same ∙ not_of_session c pid session is_session h)
    none_late (Tail count) h = false≢true h.0
    none_late fault h = no_fault (session_case c session) (subst IsReceived case_is is.is_received) fault h

    -- none holds of a session whose certificate is accepted
    pub none_of_accepted : NoneHolds c false pid
    none_of_accepted fault h = go (cases_lt (verdict_rank fault) 4)
      where
        go : (verdict_rank fault < 4) ⊎ (4 ≤ verdict_rank fault) → ⊥
        go (inl front) = none_early fault front h
        go (inr back) = none_late fault (at_session c pid session is_session false fault back h)

    -- the verdict on it is yes
    pub accepted : (got tail turns : ℕ) → got ≡ length (frames_received c cert) → got + tail ≡ length (shown_due c cert) → turns ≡ length cert.turns → IsYes c false pid got tail turns
    accepted got tail turns got_is tail_is turns_are =
        record {
          none_holds = none_of_accepted;
          session = session;
          is_session = is_session;
          got_is = got_is ∙ ap (λ (case : Case). length case.frames) case_is;
          tail_is = tail_is ∙ ap (λ (ps : List ℕ). length ps) due_is;
          turns_are = turns_are ∙ ap (λ (ts : List TurnSeen). length ts) made.is.turns_are ∙ length-map made.turns (turn_seen c);
        }

  -- ---- refused

  -- where it is refused for its names, not all stays that name the session are of it
  of_names : (place : Place) → Refuses c cert place refused.Names → are_of_session (who_of cert) (certificate_case c cert).stays ≡ false
  of_names place h = grind arith

  -- what is refused for a fault of what was received has that fault
  of_received : (f : Fault) (place : Place) → Refuses c cert place (refused.Received f) → HasFault (session_case c session) f
  of_received f place h = grind (arith, case_is)

  -- where it is refused for its names, they are the first fault
  first_names : RefusesFirst c cert refused.Names → HoldsFirst c false pid Names
  first_names is =
      record {
        holds = held c pid session is_session false Names (omega arith) (other_names c pid session is_session (sym stays_same ∙ of_names is.place is.refuses));
        none_before = none_early;
      }

  module _ (f : Fault) (is : RefusesFirst c cert (refused.Received f)) where
    -- the session has the fault
    has : HasFault (session_case c session) f
    has = of_received f is.place is.refuses

    -- of the check's refusals the place of this one is the whole
    at_whole : (place : Place) → Refuses c cert place (refused.Received f) → place_rank cert place (refused.Received f) ≡ 4 * length cert.turns + (2 + fault_rank f)
    at_whole place h = grind arith

    -- none of the faults that need a certificate holds before it
    not_before : (other : Fault) → verdict_rank other < verdict_rank f → HoldsOf c false session other → ⊥
    not_before Names less h =
        let at = at_whole is.place is.refuses in
        is.none_before AtWhole refused.Names (omega arith) (stays_same ∙ not_of_session c pid session is_session h)
    not_before (Tail count) less h = false≢true h.0
    not_before other less h =
        let at = at_whole is.place is.refuses in
        let low = lower (session_case c session) other f less h has in
        is.none_before AtWhole (refused.Received other) (omega arith) (subst (λ (case : Case). HasFault case other) (sym case_is) h)

    -- it is the session's first fault
    first_received : HoldsFirst c false pid f
    first_received =
        record {
          holds = held c pid session is_session false f (late (session_case c session) f has) (as_held c false session f has);
          none_before = λ other less h. go other less h (cases_lt (verdict_rank other) 4);
        }
      where
        go : (other : Fault) → verdict_rank other < verdict_rank f → Holds c false pid other → (verdict_rank other < 4) ⊎ (4 ≤ verdict_rank other) → ⊥
        go other less h (inl front) = none_early other front h
        go other less h (inr back) = not_before other less (at_session c pid session is_session false other back h)

  -- the fault that a refusal shows is the session's first
  pub first_found : (refusal : Refusal) (fault : Fault) → RefusesFirst c cert refusal → fault_found refusal ≡ Some fault → HoldsFirst c false pid fault
  first_found refused.Names fault is e = subst (HoldsFirst c false pid) (same_Some Names fault e) (first_names is)
  first_found (refused.Received f) fault is e = subst (HoldsFirst c false pid) (same_Some f fault e) (first_received f is)
  first_found _ fault is e = absurd (none-some fault e)
