-- The causes of an event that isn't its entry, of a difference between what was received and what was due, and of a
-- recovery that was asked for where it doesn't fit, have names of the fault's list.
use Rattle.std.proofs.Common.{◌≡◌, ◌++◌, ℕ, Bool, true, List, [], ◌∷◌, Option, Some, None, option_to_list, refl}
use Rattle.std.specs.List.{list_all}
use Rattle.aud_tap.specs.declared.records.StreamRec.{StreamRec}
use Rattle.aud_tap.specs.declared.records.StreamRec.TheVariants.{Ev}
use Rattle.aud_node.specs.Cluster.{Cluster}
use Rattle.aud_node.specs.Stream.{Text}
use Rattle.aud_client.specs.StaySeen.{FrameSeen, StaySeen}
use Rattle.aud_rooms.specs.Spans.{RoomSpan}
use Rattle.aud_rooms.specs.Turns.{Turn, Who}
use Rattle.aud_cert.specs.Certificate.{TurnSeen}
use Rattle.aud_cert.specs.declared.fault.Fault.TheVariants as fault
use Rattle.aud_check.specs.Faults.{fault_of}
use Rattle.aud_check.specs.Frames.{offset_at}
use Rattle.aud_check.specs.declared.content.Altered.{Altered}
use Rattle.aud_check.specs.declared.difference.Difference.{Difference}
use Rattle.aud_check.specs.declared.difference.Difference.TheVariants.{Doubled, Extra, Lost, Swapped}
use Rattle.aud_check.specs.declared.window.BadWindow.{BadWindow}
use Rattle.aud_check.specs.declared.window.Misfit.{Misfit}
use Rattle.aud_check.specs.declared.window.Misfit.TheVariants as misfit
use Rattle.aud_session_facts.specs.declared.place.RecordPlace.{RecordPlace}
use Rattle.aud_session_facts.specs.Reasons.{Reason, BeforeBirth, Excepted, InNoTurn, NoCommonRoom}
use Rattle.aud_causes.specs.declared.cause.Cause.{Cause}
use Rattle.aud_causes.specs.declared.cause.Cause.TheVariants as cause
use Rattle.aud_causes.specs.declared.facts.Facts.{Facts}
use Rattle.aud_causes.specs.AtBreak.{rooms_at_break}
use Rattle.aud_causes.specs.Behind.{node_behind}
use Rattle.aud_causes.specs.Bodies.{body_twice}
use Rattle.aud_causes.specs.Contents.{causes_against}
use Rattle.aud_causes.specs.Delivery.{cause_if, held}
use Rattle.aud_causes.specs.Differences.{Case, asked_past, difference_causes, doubled_causes, extra_in, lost_in, swapped_causes}
use Rattle.aud_causes.specs.Extra.{before_birth, change_missing, extra_live, late_leave, log_ended_early, sent_after_end}
use Rattle.aud_causes.specs.Facts.{facts_of}
use Rattle.aud_causes.specs.Unrecorded.{recovery_not_recorded}
use Rattle.aud_causes.specs.Windows.{misfit_cause, window_causes}
use Rattle.aud_causes.proofs.Listed.Each.{of_both, of_held, of_if, of_then, of_two, parts}
use Rattle.aud_causes.proofs.Listed.OfRecording.{is_listed}

-- what several lists have, where the test holds of it
module _ (p : Cause → Bool) where
  behind_listed : ((broke back : RecordPlace) (high low : ℕ) → p (cause.NodeBehindBreak broke back high low) ≡ true) → (c : Cluster) (turns : List TurnSeen) (f : Facts)
      → list_all p (option_to_list (node_behind c turns f)) ≡ true
  behind_listed has c turns f = search (parts, has)

  rooms_listed : ((stay after low : ℕ) → p (cause.RoomsAtBreak stay after low) ≡ true) → (c : Cluster) (who : Who) (turns : List Turn) (stays : List StaySeen) (f : Facts)
      → list_all p (option_to_list (rooms_at_break c who turns stays f)) ≡ true
  rooms_listed has c who turns stays f = search (parts, has)

  -- what each difference can have, after what its kind alone can have
  and_unrecorded : ((stay came turns : ℕ) → p (cause.RecoveryNotRecorded stay came turns) ≡ true) → (causes : List Cause) → list_all p causes ≡ true
      → (turns : List TurnSeen) (stays : List StaySeen) (f : Facts) → list_all p (causes ++ option_to_list (recovery_not_recorded turns stays f)) ≡ true
  and_unrecorded has causes are turns stays f = of_both p causes (option_to_list (recovery_not_recorded turns stays f)) are (search (parts, has))

module _ (off : Text) where
  -- ---- CONTENT

  -- whichever of them hold
  contents_listed : (same reordered changed other : Bool) (a : Altered)
      → list_all (is_listed (fault.Content off))
      (held
      (cause_if same (cause.AnotherEncoder a.frame a.part) ∷ cause_if reordered (cause.AttachmentsReordered a.frame)
      ∷ cause_if changed (cause.Altered a.frame a.part) ∷ cause_if other (cause.AnotherEvent a.frame) ∷ [])) ≡ true
  contents_listed same reordered changed other a = search parts depth 9

  pub content_listed : (frame : Option FrameSeen) (entry : Option StreamRec) (altered : Altered) → list_all (is_listed (fault.Content off)) (causes_against frame entry altered) ≡ true
  content_listed (Some frame) (Some (Ev event)) altered = search contents_listed
  content_listed _ _ altered = refl

  -- ---- EXTRA

  -- the cause has a name of its list
  abbrev in_extra : Cause → Bool
  in_extra = is_listed (fault.Extra off)

  ended_listed : (c : Cluster) (pid : Text) (turns : List TurnSeen) (why : Option Reason) → list_all in_extra (option_to_list (log_ended_early c pid turns why)) ≡ true
  ended_listed c pid turns (Some InNoTurn) = search parts
  ended_listed c pid turns _ = refl

  end_listed : (c : Cluster) (pid : Text) (turns : List TurnSeen) (why : Option Reason) (f : Facts) → list_all in_extra (option_to_list (sent_after_end c pid turns why f)) ≡ true
  end_listed c pid turns (Some InNoTurn) f = search parts
  end_listed c pid turns _ f = refl

  birth_listed : (c : Cluster) (turns : List TurnSeen) (why : Option Reason) → list_all in_extra (option_to_list (before_birth c turns why)) ≡ true
  birth_listed c turns (Some BeforeBirth) = search parts
  birth_listed c turns _ = refl

  left_listed : (c : Cluster) (pid : Text) (turns : List Turn) (position : ℕ) (why : Option Reason) → list_all in_extra (option_to_list (late_leave c pid turns position why)) ≡ true
  left_listed c pid turns position (Some NoCommonRoom) = search parts
  left_listed c pid turns position _ = refl

  live_listed : (told : Option Cause) (why : Option Reason) (f : Facts) → list_all in_extra (option_to_list (extra_live told why f)) ≡ true
  live_listed (Some told) why f = refl
  live_listed None why f = search parts

  change_listed : (c : Cluster) (pid : Text) (turns : List TurnSeen) (spans : List RoomSpan) (came : List ℕ) (why : Option Reason) (f : Facts)
      → list_all in_extra (option_to_list (change_missing c pid turns spans came why f)) ≡ true
  change_listed c pid turns spans came (Some NoCommonRoom) f = search parts
  change_listed c pid turns spans came (Some (Excepted room)) f = search parts
  change_listed c pid turns spans came _ f = refl

  extra_listed : (s : Case) (f : Facts) (position : ℕ) → list_all in_extra (extra_in s f position) ≡ true
  extra_listed s f position =
      let behind = behind_listed in_extra (λ broke back high low. refl) in
      let at_break = rooms_listed in_extra (λ stay after low. refl) in
      search (of_held, behind, at_break, ended_listed, end_listed, left_listed, birth_listed, live_listed, change_listed, of_then, of_if) depth 14

  -- ---- DOUBLED

  -- the cause has a name of its list
  abbrev in_doubled : Cause → Bool
  in_doubled = is_listed (fault.Doubled off)

  body_listed : (c : Cluster) (client : ℕ) (numbers : List ℕ) (f : Facts) → list_all in_doubled (option_to_list (body_twice c client numbers f)) ≡ true
  body_listed c client numbers f = search parts depth 9

  doubled_listed : (c : Cluster) (turns : List TurnSeen) (stays : List StaySeen) (body : Option Cause) (f : Facts)
      → list_all in_doubled (option_to_list body) ≡ true → list_all in_doubled (doubled_causes c turns stays body f) ≡ true
  doubled_listed c turns stays body f of_body =
      let behind = behind_listed in_doubled (λ broke back high low. refl) in
      search (of_held, behind, of_body, of_then, of_if) depth 14

  -- ---- SWAPPED

  swapped_listed : (c : Cluster) (turns : List TurnSeen) (f : Facts) → list_all (is_listed (fault.Swapped off)) (swapped_causes c turns f) ≡ true
  swapped_listed c turns f =
      let behind = behind_listed (is_listed (fault.Swapped off)) (λ broke back high low. refl) in
      search (of_held, behind, of_if) depth 9

  -- ---- LOST

  -- the cause has a name of its list
  abbrev in_lost : Cause → Bool
  in_lost = is_listed (fault.Lost off)

  asked_past_listed : (due : List ℕ) (f : Facts) → list_all in_lost (option_to_list (asked_past due f)) ≡ true
  asked_past_listed due f = search (parts, of_two in_lost)

  lost_listed : (s : Case) (f : Facts) → list_all in_lost (lost_in s f) ≡ true
  lost_listed s f =
      let at_break = rooms_listed in_lost (λ stay after low. refl) in
      search (of_held, at_break, asked_past_listed, of_then, of_if) depth 9

-- ---- of a difference, in the list of its fault

pub difference_listed : (s : Case) (difference : Difference) → list_all (is_listed (fault_of s.c.stream difference)) (difference_causes s difference) ≡ true
difference_listed s (Extra frame position) =
    let off = offset_at s.c.stream position in
    let f = facts_of s.c.stream s.seen s.stays (Extra frame position) in
    and_unrecorded (in_extra off) (λ stay came turns. refl) (extra_in s f position) (extra_listed off s f position) s.seen s.stays f
difference_listed s (Doubled first again position) =
    let off = offset_at s.c.stream position in
    let f = facts_of s.c.stream s.seen s.stays (Doubled first again position) in
    let body = body_twice s.c s.client s.numbers f in
    and_unrecorded (in_doubled off) (λ stay came turns. refl) (doubled_causes s.c s.seen s.stays body f)
    (doubled_listed off s.c s.seen s.stays body f (body_listed off s.c s.client s.numbers f)) s.seen s.stays f
difference_listed s (Swapped frame due later) =
    let off = offset_at s.c.stream due in
    let f = facts_of s.c.stream s.seen s.stays (Swapped frame due later) in
    and_unrecorded (is_listed (fault.Swapped off)) (λ stay came turns. refl) (swapped_causes s.c s.seen f) (swapped_listed off s.c s.seen f) s.seen s.stays f
difference_listed s (Lost frame due) =
    let off = offset_at s.c.stream due in
    let f = facts_of s.c.stream s.seen s.stays (Lost frame due) in
    and_unrecorded (in_lost off) (λ stay came turns. refl) (lost_in s f) (lost_listed off s f) s.seen s.stays f

-- ---- WINDOW

misfit_listed : (conn : ℕ) (c : Cluster) (stay : ℕ) (off : Option Text) (asked : Option ℕ) (why : Misfit)
    → list_all (is_listed (fault.Window conn)) (option_to_list (misfit_cause c stay off asked why)) ≡ true
misfit_listed conn c stay off asked misfit.NoOffset = refl
misfit_listed conn c stay off asked misfit.Unknown = search parts
misfit_listed conn c stay off asked (misfit.Behind frame) = search parts
misfit_listed conn c stay off asked (misfit.NotBehind frame) = refl

pub window_listed : (conn : ℕ) (c : Cluster) (stays : List StaySeen) (due : List ℕ) (window : BadWindow) → list_all (is_listed (fault.Window conn)) (window_causes c stays due window) ≡ true
window_listed conn c stays due window = search (misfit_listed, parts) depth 9
