-- What was received of what was due.
use Rattle.std.specs.Prelude.{◌≡◌, ◌+◌, ◌&&◌, ℕ, Bool, true, false, List, [], ◌∷◌, length, max, count_by, nat_lt, Option, MatchOption}
use Rattle.std.specs.List.{filter}
use Rattle.std.specs.Option.{option_map}
use Rattle.aud_node.specs.Cluster.{Cluster}
use Rattle.aud_node.specs.Stream.{Text}
use Rattle.aud_session_facts.specs.Account.{IsFound, difference_found}
use Rattle.aud_cert.specs.declared.class.Class.{Class}
use Rattle.aud_cert.specs.declared.class.Class.TheVariants.{Delivery}
use Rattle.aud_cert.specs.Class.{class_of}
use Rattle.aud_check.specs.declared.difference.Difference.{Difference}
use Rattle.aud_check.specs.declared.difference.Difference.TheVariants as difference
use Rattle.aud_check.specs.declared.finding.Finding.{Finding}
use Rattle.aud_check.specs.Window.{positions_received}
use Rattle.aud_explanation.specs.declared.client.Account.{Account}
use Rattle.aud_verdict.specs.declared.verdict.Verdict.{Verdict}
use Rattle.aud_verdict.specs.declared.verdict.Verdict.TheVariants.{Yes, No}
use Rattle.aud_verdict.specs.Session.{SessionLogs, IsSession, own_stays, due_to}

-- ---- which verdicts it is told of

-- the fault is one of the delivery
abbrev pub is_delivery : Class → Bool
is_delivery Delivery = true
is_delivery _ = false

-- the delivery was judged: the verdict is a yes, or a fault of the delivery
abbrev pub is_judged : Verdict → Bool
is_judged (Yes got tail turns) = true
is_judged (No fault) = is_delivery (class_of fault)

-- ---- the figures

-- the greatest of the positions, which count from 1; 0 where there are none
abbrev pub greatest : List ℕ → ℕ
greatest [] = 0
greatest (p ∷ positions) = max p (greatest positions)

-- the tail: those due past all that were received, ascending
abbrev pub tail_positions : List ℕ → List ℕ → List ℕ
tail_positions received due = filter (nat_lt (greatest received)) due

-- the frame at which a difference shows
abbrev pub frame_of : Difference → ℕ
frame_of (difference.Extra frame position) = frame
frame_of (difference.Doubled first again position) = again
frame_of (difference.Swapped frame due later) = frame
frame_of (difference.Lost frame due) = frame

-- the frame, which counts from 1, at which the difference shows, if there is one
abbrev pub at_frame : Option Difference → Option ℕ
at_frame difference = option_map (λ d. frame_of d + 1) difference

-- these are the figures of what was received and what was due, of which this is the difference, if there is one
pub record AreFigures (received due : List ℕ) (difference : Option Difference) (figures : Account) : Type 0 where
  pub got_is : figures.got ≡ length received
  pub due_is : figures.due ≡ length due
  pub tail_is : figures.tail ≡ count_by (nat_lt (greatest received)) due
  pub at_is : figures.at_frame ≡ at_frame difference

-- these are those of the session with this pid
pub record AreFiguresOf (c : Cluster) (pid : Text) (figures : Account) : Type 0 where
  pub session : SessionLogs
  pub is_session : IsSession c pid session
  pub found : Option Finding
  pub is_found : IsFound c session.client (own_stays c session) (due_to c session) found
  pub are_figures : AreFigures (positions_received (own_stays c session)) (due_to c session) (difference_found found) figures

-- what is told of it: nothing, where its turns and its client aren't known, or the delivery was not judged
abbrev pub IsReceivedShown : Cluster → Text → Bool → Verdict → Option Account → Type 0
IsReceivedShown c pid known verdict figures = MatchOption figures ((known && is_judged verdict) ≡ false) (AreFiguresOf c pid)
