-- The causes that a session's fault may have.
use Rattle.std.specs.Prelude.{◌≡◌, ℕ, Bool, true, false, ◌&&◌, List, [], length, map, nat_eq, Option, Some, None}
use Rattle.aud_node.specs.Cluster.{Cluster}
use Rattle.aud_node.specs.Stream.{Text}
use Rattle.aud_client.specs.Received.{numbers_naming}
use Rattle.aud_cert.specs.declared.fault.Fault.{Fault}
use Rattle.aud_cert.specs.declared.fault.Fault.TheVariants as fault
use Rattle.aud_maker.specs.Made.{IsMade}
use Rattle.aud_verdict.specs.declared.verdict.Verdict.{Verdict}
use Rattle.aud_verdict.specs.declared.verdict.Verdict.TheVariants.{Yes, No}
use Rattle.aud_input.specs.TapLines.{TapLines}
use Rattle.aud_session_facts.specs.Recoveries.{stays_at}
use Rattle.aud_session_facts.specs.declared.account.Account.{Account}
use Rattle.aud_causes.specs.declared.cause.Cause.{Cause}
use Rattle.aud_causes.specs.declared.causes.Noted.{Noted}
use Rattle.aud_causes.specs.declared.found.CauseFound.{CauseFound}
use Rattle.aud_causes.specs.Differences.{case_of}
use Rattle.aud_causes.specs.Found.{cause_seen, shown_causes}
use Rattle.aud_causes.specs.Judged.{judged_causes}
use Rattle.aud_causes.specs.Recorded.{AreRecordedCauses}

-- these are the causes of the fault of the session with this pid: by what it has on the nodes and in its client's tap,
-- where it has no account; else by its account, and by the numbers of its stays in that tap
abbrev pub AreFound : Cluster → Option ℕ → List ℕ → Text → Noted → Option Account → Fault → List Cause → Type 0
AreFound c client numbers pid noted None fault found = AreRecordedCauses c client pid noted.unordered.items fault found
AreFound c client numbers pid noted (Some a) fault found =
    (made : IsMade c a.cert.pid a.cert) → found ≡ judged_causes (case_of c a numbers made) a.client noted.orphan fault a.found

-- these are the numbers of the stays of the client's tap at this place, if there is one, whose reply names the session
abbrev pub AreNumbersAt : Cluster → Option ℕ → Text → List ℕ → Type 0
AreNumbersAt c None pid numbers = numbers ≡ []
AreNumbersAt c (Some client) pid numbers = numbers ≡ numbers_naming pid (stays_at c client)

-- several causes of such a fault are known: of these faults only one is
abbrev pub has_others : Fault → Bool
has_others fault.NoLog = false
has_others fault.Frame = false
has_others _ = true

-- these are the causes of the fault, as they are told
pub record AreToldCauses (c : Cluster) (lines : List TapLines) (client : Option ℕ) (pid : Text) (noted : Noted) (account : Option Account) (fault : Fault) (causes : List CauseFound) : Type 0 where
  pub numbers : List ℕ
  pub are_numbers : AreNumbersAt c client pid numbers
  pub found : List Cause
  pub are_found : AreFound c client numbers pid noted account fault found
  pub are_told : map cause_seen causes ≡ shown_causes c lines client numbers (has_others fault) found

-- a session that is answered yes has no causes; one that is answered no has those of its fault
abbrev pub AreCauses : Cluster → List TapLines → Option ℕ → Text → Noted → Option Account → Verdict → List CauseFound → Type 0
AreCauses c lines client pid noted account (Yes got tail turns) causes = causes ≡ []
AreCauses c lines client pid noted account (No fault) causes = AreToldCauses c lines client pid noted account fault causes

-- there is one cause, of a fault that can have others: it is certain
abbrev pub is_sure : Verdict → List CauseFound → Bool
is_sure (Yes got tail turns) causes = false
is_sure (No fault) causes = has_others fault && nat_eq (length causes) 1
