-- A verdict names what was found.
use Rattle.std.proofs.Common.{◌≡◌, ◌<◌, ◌≤◌, Bool, true, false, cond, List, Option, Some, None, refl, sym, ap, subst, ◌∙◌, ◌⊎◌, inl, inr, arith}
use Rattle.std.proofs.lemmas.Bool.{cases_lt}
use Rattle.aud_tap.specs.declared.records.StreamRec.{StreamRec}
use Rattle.aud_tap.specs.declared.records.ClientRec.{ClientRec}
use Rattle.aud_node.specs.Cluster.{Cluster}
use Rattle.aud_node.specs.Stream.{Text}
use Rattle.aud_client.specs.StaySeen.{FrameSeen}
use Rattle.aud_client.specs.Received.{are_in_namespace, frames_by_stay, received_list, stays_naming, transcript_of}
use Rattle.aud_cert.specs.declared.fault.Fault.{Fault}
use Rattle.aud_cert.specs.declared.fault.Fault.TheVariants.{Names}
use Rattle.aud_check.specs.declared.finding.Finding.{Finding}
use Rattle.aud_check.specs.Faults.{Case, HasFault, IsReceived}
use Rattle.aud_check.specs.Findings.{IsFirstFinding, fault_shown}
use Rattle.aud_check.specs.NamedStays.{are_of_session}
use Rattle.aud_check.proofs.ClientCase.{one_namespace}
use Rattle.aud_check.proofs.Ranks.{no_fault}
use Rattle.aud_verdict.specs.Session.{SessionLogs, IsSession, client_log, due_to, own_stays, session_case, transcript}
use Rattle.aud_verdict.specs.Faults.{Holds, HoldsFirst, HoldsOf, verdict_rank}
use Rattle.aud_verdict.proofs.Made.{as_held, late, lower, placed}
use Rattle.aud_verdict.proofs.Sessions.{at_session, held, one_first, other_names}
use Rattle.aud_session_facts.specs.declared.account.Account.{Account}
use Rattle.aud_session_facts.specs.Account.{IsAccountOf, IsFound, IsFoundFor, case_at, found_for, is_as, is_of_received, stays_of}

-- a fault of the session is one of what was received, by where it stands
of_received : (c : Cluster) (whole : Bool) (s : SessionLogs) (f : Fault) → HoldsOf c whole s f → 5 ≤ verdict_rank f → verdict_rank f ≤ 12 → HasFault (session_case c s) f
of_received c whole s f h low high = grind arith

-- such a fault stands there
stands : (f : Fault) → is_of_received f ≡ true → (7 ≤ verdict_rank f) × (verdict_rank f ≤ 12)
stands f is = grind arith

-- the fault of a finding is such a one as the finding
shown_as : (stream : List StreamRec) (found : Finding) → is_of_received (fault_shown stream found) ≡ true → is_as found (fault_shown stream found) ≡ true
shown_as stream found is = grind arith

module _ (c : Cluster) (whole : Bool) (pid : Text) (fault : Fault) (a : Account) (first : HoldsFirst c whole pid fault) (kind : is_of_received fault ≡ true) (of : IsAccountOf c pid a)
    (law : (stream : List StreamRec) (recs : List ClientRec) (pid nsp : Text) → are_in_namespace nsp (stays_naming pid (transcript_of stream recs).stays) ≡ true
    → received_list stream recs pid ≡ frames_by_stay pid (transcript_of stream recs).stays) where
  abbrev s : SessionLogs
  s = of.is.session

  is_session : IsSession c pid s
  is_session = of.is.is_session

  abbrev case : Case
  case = session_case c s

  -- all stays that name the session are of it, since a reply that names it otherwise would come first
  are_named : are_of_session s.who (own_stays c s) ≡ true
  are_named = go (are_of_session s.who (own_stays c s)) refl
    where
      go : (b : Bool) → are_of_session s.who (own_stays c s) ≡ b → b ≡ true
      go true e = refl
      go false e = let low = (stands fault kind).0 in absurd (first.none_before Names (omega (arith, low)) (held c pid s is_session whole Names (omega arith) (other_names c pid s is_session e)))

  -- so what was received by stays is what was received by place
  case_is : case_at c a.client (stays_of a) a.due.items ≡ case
  case_is =
      (λ i. case_at c (of.is.client_is i) (of.is.stays_are i) (of.is.due_is i))
      ∙ ap (λ (frames : List FrameSeen). record { stream = c.stream; transcript = transcript c s; stays = own_stays c s; frames = frames; due = due_to c s })
      (sym (law c.stream (client_log c s) s.who.pid s.who.nsp (one_namespace s.who (own_stays c s) are_named)))

  -- the session has the fault
  has : HasFault case fault
  has = let (low, high) = stands fault kind in of_received c whole s fault (at_session c pid s is_session whole fault (omega (arith, low)) first.holds) (omega (arith, low)) high

  module _ (found : Finding) (is : IsFirstFinding case found) where
    -- the fault of the finding
    abbrev g : Fault
    g = fault_shown c.stream found

    holds : Holds c whole pid g
    holds = held c pid s is_session whole g (late case g is.is_first.holds) (as_held c whole s g is.is_first.holds)

    not_before : (other : Fault) → verdict_rank other < verdict_rank g → Holds c whole pid other → (verdict_rank other < verdict_rank fault) ⊎ (verdict_rank fault ≤ verdict_rank other) → ⊥
    not_before other less h (inl before) = first.none_before other before h
    not_before other less h (inr after) =
        let (low, high) = stands fault kind in
        let (g_is, g_low, g_high, g_parted) = placed case g is.is_first.holds in
        let other_has = of_received c whole s other (at_session c pid s is_session whole other (omega (arith, low, after)) h) (omega (arith, low, after)) (omega (arith, less, g_high)) in
        is.is_first.none_before other (lower case other g less other_has is.is_first.holds) other_has

    -- it is the session's first, so it is this one
    is_named : fault ≡ g
    is_named = one_first c whole pid fault g first (record { holds = holds; none_before = λ other less h. not_before other less h (cases_lt (verdict_rank other) (verdict_rank fault)) })

  pub verdict_found : IsFoundFor c.stream fault a.found
  verdict_found = go a.found refl of.found
    where
      go : (o : Option Finding) → a.found ≡ o → IsFound c a.client (stays_of a) a.due.items o → IsFoundFor c.stream fault a.found
      go None e received = absurd (no_fault case (subst IsReceived case_is received) fault has)
      go (Some found) e shown =
          let named = is_named found (subst (λ x. IsFirstFinding x found) case_is shown) in
          let alike : is_as found fault ≡ true = subst (λ f. is_as found f ≡ true) (sym named) (shown_as c.stream found (ap is_of_received (sym named) ∙ kind)) in
          record { found = found; is = ap (found_for fault) e ∙ ap (λ b. cond b (Some found) None) alike; names = named }
