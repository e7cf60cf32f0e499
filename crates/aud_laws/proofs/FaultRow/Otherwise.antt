-- What is wrong first with what was received of a session is such a fault as its verdict names.
use Rattle.std.proofs.Common.{◌≡◌, Bool, true, false, cond, List, Option, Some, None, sym, ap, subst, ◌∙◌, inl, inr, arith}
use Rattle.std.proofs.lemmas.Bool.{cases_lt}
use Rattle.std.proofs.lemmas.Option.{none-some}
use Rattle.aud_tap.specs.declared.records.StreamRec.{StreamRec}
use Rattle.aud_node.specs.Cluster.{Cluster}
use Rattle.aud_node.specs.Stream.{Text}
use Rattle.aud_cert.specs.declared.fault.Fault.{Fault}
use Rattle.aud_check.specs.declared.finding.Finding.{Finding}
use Rattle.aud_check.specs.Faults.{Case, IsFirstFault, fault_rank}
use Rattle.aud_check.specs.Findings.{IsFirstFinding, fault_shown}
use Rattle.aud_check.proofs.Ranks.{no_fault}
use Rattle.aud_session_facts.specs.declared.account.Account.{Account}
use Rattle.aud_session_facts.specs.Account.{IsAccountOf, IsFound, IsFoundFor, case_at, found_for, is_as, is_of_received}
use Rattle.aud_verdict.specs.Faults.{HoldsFirst}
use Rattle.aud_verdict.specs.Session.{SessionLogs, IsSession, due_to, own_stays}
use Rattle.aud_verdict.proofs.Sessions.{one_session}
use Rattle.aud_findings.proofs.ByAccount.{own_found}
use Rattle.aud_findings.specs.ShowsFound.{IsFoundOtherwise}

-- a verdict names what was found
abbrev pub VerdictIsFound : Type 0
VerdictIsFound = (c : Cluster) (whole : Bool) (pid : Text) (fault : Fault) (account : Account) → HoldsFirst c whole pid fault → is_of_received fault ≡ true
    → IsAccountOf c pid account → IsFoundFor c.stream fault account.found

-- two faults that are each the first have one rank
one_rank : (case : Case) (one other : Fault) → IsFirstFault case one → IsFirstFault case other → fault_rank one ≡ fault_rank other
one_rank case one other is too = elim (cases_lt (fault_rank one) (fault_rank other)) [
  | inl less ↦ absurd (too.none_before one less is.holds)
  | inr more ↦
      elim (cases_lt (fault_rank other) (fault_rank one)) [
        | inl less ↦ absurd (is.none_before other less too.holds)
        | inr same ↦ omega arith
      ]
]

-- a finding of the rank of such a fault is of its kind
one_kind : (stream : List StreamRec) (one other : Finding) → fault_rank (fault_shown stream one) ≡ fault_rank (fault_shown stream other) → is_of_received (fault_shown stream one) ≡ true
    → is_as other (fault_shown stream one) ≡ true
one_kind stream one other same is = grind arith

-- what was found, if it is one for the fault, was found
was_found : (fault : Fault) (o : Option Finding) (found : Finding) → found_for fault o ≡ Some found → o ≡ Some found
was_found fault None found e = absurd (none-some found e)
was_found fault (Some other) found e = go (is_as other fault) e
  where
    go : (b : Bool) → cond b (Some other) None ≡ Some found → Some other ≡ Some found
    go true e = e
    go false e = absurd (none-some found e)

module _ (c : Cluster) (whole : Bool) (pid : Text) (fault : Fault) (first : HoldsFirst c whole pid fault) (kind : is_of_received fault ≡ true)
    (a : Account) (of : IsAccountOf c pid a) (law : VerdictIsFound) (s : SessionLogs) (is : IsSession c pid s) where
  abbrev case : Case
  case = case_at c s.client (own_stays c s) (due_to c s)

  named : IsFoundFor c.stream fault a.found
  named = law c whole pid fault a first kind of

  -- it is the first of what is wrong with the session
  first_found : IsFirstFinding case named.found
  first_found =
      let found : IsFound c s.client (own_stays c s) (due_to c s) a.found =
      subst (λ (t : SessionLogs). IsFound c t.client (own_stays c t) (due_to c t) a.found) (one_session c pid of.is.session s of.is.is_session is) (own_found c pid a of) in
      subst (IsFound c s.client (own_stays c s) (due_to c s)) (was_found fault a.found named.found named.is) found

  -- so nothing else was
  pub not_otherwise : IsFoundOtherwise c s.client (own_stays c s) (due_to c s) fault → ⊥
  not_otherwise (o, found, none) = go o found none
    where
      go : (o : Option Finding) → IsFound c s.client (own_stays c s) (due_to c s) o → found_for fault o ≡ None → ⊥
      go None received none = no_fault case received (fault_shown c.stream named.found) first_found.is_first.holds
      go (Some other) found none =
          let same = one_rank case (fault_shown c.stream named.found) (fault_shown c.stream other) first_found.is_first found.is_first in
          let alike : is_as other fault ≡ true =
          subst (λ f. is_as other f ≡ true) (sym named.names) (one_kind c.stream named.found other same (subst (λ f. is_of_received f ≡ true) named.names kind)) in
          none-some other (sym none ∙ ap (λ b. cond b (Some other) None) alike)
