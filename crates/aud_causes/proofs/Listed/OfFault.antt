-- Whatever the fault of a session, what is told of it has names of its list.
use Rattle.std.proofs.Common.{◌≡◌, ℕ, Bool, true, false, List, Option, Some, None, cond, refl, sym, ap, subst, ◌∙◌, length}
use Rattle.std.specs.Prelude.{IfSome}
use Rattle.std.specs.List.{list_all}
use Rattle.std.proofs.lemmas.List.Folds.{list_all-map}
use Rattle.aud_node.specs.Cluster.{Cluster}
use Rattle.aud_node.specs.Stream.{Text, entry}
use Rattle.aud_client.specs.Replies.{naming_places}
use Rattle.aud_cert.specs.declared.fault.Fault.{Fault}
use Rattle.aud_cert.specs.declared.fault.Fault.TheVariants as fault
use Rattle.aud_maker.specs.Made.{IsMade}
use Rattle.aud_check.specs.Findings.{fault_shown}
use Rattle.aud_check.specs.Frames.{offset_at}
use Rattle.aud_check.specs.declared.finding.Finding.{Finding}
use Rattle.aud_check.specs.declared.finding.Finding.TheVariants as finding
use Rattle.aud_input.specs.TapLines.{TapLines}
use Rattle.aud_session_facts.specs.Account.{IsAccountOf, IsFoundFor, found_for, is_content, is_of_received, is_parting, is_window}
use Rattle.aud_session_facts.specs.Marks.{turn_marks}
use Rattle.aud_session_facts.specs.declared.account.Account.{Account}
use Rattle.aud_session_facts.specs.declared.place.RecordPlace.{RecordPlace}
use Rattle.aud_causes.specs.declared.cause.Cause.{Cause}
use Rattle.aud_causes.specs.declared.causes.Noted.{Noted}
use Rattle.aud_causes.specs.declared.found.CauseFound.{CauseFound}
use Rattle.aud_causes.specs.Candidates.{are_candidates, is_candidate}
use Rattle.aud_causes.specs.Causes.{AreFound, AreToldCauses, has_others}
use Rattle.aud_causes.specs.Chain.{stays_of_client}
use Rattle.aud_causes.specs.Differences.{Case, case_of}
use Rattle.aud_causes.specs.Found.{CauseSeen, cause_seen, shown_among}
use Rattle.aud_causes.specs.Judged.{causes_found, judged_causes}
use Rattle.aud_causes.specs.Recorded.{AreRecordedCauses}
use Rattle.aud_causes.specs.Texts.{frame_of}
use Rattle.aud_causes.proofs.Listed.OfRecording.{chain_listed, client_listed, is_listed, names_listed, no_log_listed, order_listed, orphan_listed}
use Rattle.aud_causes.proofs.Listed.OfDifference.{content_listed, difference_listed, window_listed}

-- ---- of a session that has a certificate

-- of such a fault nothing is found
not_found : (fault : Fault) → is_content fault ≡ false → is_parting fault ≡ false → is_window fault ≡ false → (found : Option Finding) → found_for fault found ≡ None
not_found fault no_content no_parting no_window None = refl
not_found fault no_content no_parting no_window (Some finding.Frame) = refl
not_found fault no_content no_parting no_window (Some finding.Orphan) = refl
not_found fault no_content no_parting no_window (Some (finding.Content altered)) = ap (λ b. cond b (Some (finding.Content altered)) None) no_content
not_found fault no_content no_parting no_window (Some (finding.Delivery difference)) = ap (λ b. cond b (Some (finding.Delivery difference)) None) no_parting
not_found fault no_content no_parting no_window (Some (finding.Window window)) = ap (λ b. cond b (Some (finding.Window window)) None) no_window

module _ (s : Case) where
  -- of what was found, in the list of its fault
  finding_listed : (found : Finding) → list_all (is_listed (fault_shown s.c.stream found)) (causes_found s (Some found)) ≡ true
  finding_listed finding.Frame = refl
  finding_listed finding.Orphan = refl
  finding_listed (finding.Content altered) =
      content_listed (offset_at s.c.stream altered.position) (frame_of s.c s.numbers altered.frame s.client) (entry s.c.stream altered.position) altered
  finding_listed (finding.Delivery difference) = difference_listed s difference
  finding_listed (finding.Window window) = window_listed window.c s.c s.stays s.due window

  received_listed : (fault : Fault) (found : Option Finding) → IsFoundFor s.c.stream fault found → list_all (is_listed fault) (causes_found s (found_for fault found)) ≡ true
  received_listed fault found of =
      ap (λ o. list_all (is_listed fault) (causes_found s o)) of.is
      ∙ ap (λ named. list_all (is_listed named) (causes_found s (Some of.found))) of.names
      ∙ finding_listed of.found

  judged_listed : (client : ℕ) (orphan : Option ℕ) (fault : Fault) (found : Option Finding) → (is_of_received fault ≡ true → IsFoundFor s.c.stream fault found)
      → list_all (is_listed fault) (judged_causes s client orphan fault found) ≡ true
  judged_listed client orphan fault.Names found of = names_listed s.seen s.stays
  judged_listed client orphan fault.Frame found of = refl
  judged_listed client orphan fault.Orphan found of = orphan_listed s.c client orphan
  judged_listed client orphan (fault.Content off) found of = received_listed (fault.Content off) found (of refl)
  judged_listed client orphan (fault.Extra off) found of = received_listed (fault.Extra off) found (of refl)
  judged_listed client orphan (fault.Doubled off) found of = received_listed (fault.Doubled off) found (of refl)
  judged_listed client orphan (fault.Swapped off) found of = received_listed (fault.Swapped off) found (of refl)
  judged_listed client orphan (fault.Lost off) found of = received_listed (fault.Lost off) found (of refl)
  judged_listed client orphan (fault.Window conn) found of = received_listed (fault.Window conn) found (of refl)
  judged_listed client orphan other found of = ap (λ o. list_all (is_listed other) (causes_found s o)) (not_found other refl refl refl found)

-- ---- of one that has none

recorded_listed : (c : Cluster) (client : Option ℕ) (pid : Text) (unordered : List RecordPlace) (fault : Fault) (found : List Cause) → AreRecordedCauses c client pid unordered fault found
    → list_all (is_listed fault) found ≡ true
recorded_listed c client pid unordered fault.NoLog found is = ap (list_all (is_listed fault.NoLog)) is ∙ no_log_listed c pid
recorded_listed c client pid unordered fault.Chain found is =
    ap (list_all (is_listed fault.Chain)) is ∙ chain_listed c pid (turn_marks c pid) (stays_of_client c client pid)
recorded_listed c client pid unordered fault.Order found is = ap (list_all (is_listed fault.Order)) is ∙ order_listed c unordered
recorded_listed c client pid unordered fault.Client found is =
    ap (list_all (is_listed fault.Client)) is ∙ client_listed c pid (length (naming_places c.taps pid))
recorded_listed c client pid unordered other found is = ap (list_all (is_listed other)) is

-- ---- as they are told

-- an account of the session has found what this fault of it is of
abbrev pub NamesFound : Cluster → Text → Fault → Type 0
NamesFound c pid fault = (a : Account) → is_of_received fault ≡ true → IsAccountOf c pid a → IsFoundFor c.stream fault a.found

found_listed : (c : Cluster) (client : Option ℕ) (numbers : List ℕ) (pid : Text) (noted : Noted) (account : Option Account) (fault : Fault) (found : List Cause)
    → NamesFound c pid fault → IfSome account (IsAccountOf c pid) → AreFound c client numbers pid noted account fault found
    → list_all (is_listed fault) found ≡ true
found_listed c client numbers pid noted None fault found names of are = recorded_listed c client pid noted.unordered.items fault found are
found_listed c client numbers pid noted (Some a) fault found names of are =
    let made : IsMade c a.cert.pid a.cert = subst (λ its. IsMade c its a.cert) (sym of.made.is.pid_is) of.made in
    ap (list_all (is_listed fault)) (are made)
    ∙ judged_listed (case_of c a numbers made) a.client noted.orphan fault a.found (λ kind. names a kind of)

-- the fault's list has the name of what is told
abbrev has_name : Fault → CauseSeen → Bool
has_name fault seen = is_candidate fault seen.id

pub told_listed : (c : Cluster) (lines : List TapLines) (client : Option ℕ) (pid : Text) (noted : Noted) (account : Option Account) (fault : Fault) (causes : List CauseFound)
    → NamesFound c pid fault → IfSome account (IsAccountOf c pid) → AreToldCauses c lines client pid noted account fault causes
    → are_candidates fault causes ≡ true
told_listed c lines client pid noted account fault causes names of told =
    sym (list_all-map (has_name fault) cause_seen causes)
    ∙ ap (list_all (has_name fault)) told.are_told
    ∙ list_all-map (has_name fault) (shown_among c lines client told.numbers (has_others fault) told.found) told.found
    ∙ found_listed c client told.numbers pid noted account fault told.found names of told.are_found
