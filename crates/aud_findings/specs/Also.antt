-- Other entries of a session with the same fault.
use Rattle.std.specs.Prelude.{◌≡◌, ◌⊎◌, ◌++◌, ◌&&◌, not, ℕ, zero, suc, ◌+◌, ◌-◌, Bool, true, false, List, [], ◌∷◌, map, take, drop, length, slice_get, count_by, nat_eq, nat_lt, option_to_list, Option, None, if◌then◌else◌}
use Rattle.std.specs.List.{filter}
use Rattle.std.specs.Option.{option_map, option_and_then}
use Rattle.aud_tap.specs.declared.records.StreamRec.{StreamRec}
use Rattle.aud_node.specs.Cluster.{Cluster}
use Rattle.aud_node.specs.Stream.{Text}
use Rattle.aud_client.specs.Entries.{is_entry}
use Rattle.aud_client.specs.StaySeen.{FrameSeen, StaySeen}
use Rattle.aud_cert.specs.declared.fault.Fault.{Fault}
use Rattle.aud_cert.specs.declared.fault.Fault.TheVariants as fault
use Rattle.aud_check.specs.declared.difference.Difference.{Difference}
use Rattle.aud_check.specs.declared.difference.Difference.TheVariants.{Extra, Doubled, Swapped, Lost}
use Rattle.aud_check.specs.declared.finding.Finding.{Finding}
use Rattle.aud_check.specs.Difference.{IsAscending, IsDifference, has_position}
use Rattle.aud_session_facts.specs.Account.{IsFound, difference_found}
use Rattle.aud_check.specs.Frames.{frames_in}
use Rattle.aud_check.specs.Window.{positions_received}
use Rattle.aud_input.specs.TapLines.{TapLines}
use Rattle.aud_verdict.specs.declared.verdict.Verdict.{Verdict}
use Rattle.aud_verdict.specs.declared.verdict.Verdict.TheVariants.{Yes, No}
use Rattle.aud_rows.specs.declared.row.Role.{Role}
use Rattle.aud_rows.specs.declared.row.Role.TheVariants as role
use Rattle.aud_rows.specs.Rows.{stream_row}
use Rattle.aud_rows.specs.Seen.{RowSeen}
use Rattle.aud_rows.specs.StayRows.{frame_row, stays_at}
use Rattle.aud_session_facts.specs.declared.shown.frame_place.FramePlace.{FramePlace}
use Rattle.aud_session_facts.specs.FramePlaces.{frame_at}
use Rattle.aud_session_facts.specs.ShowsDifference.{AreNumbersOf}
use Rattle.aud_verdict.specs.Session.{SessionLogs, IsSession, own_stays, due_to}
use Rattle.aud_findings.specs.declared.also.LinesOf.{LinesOf}
use Rattle.aud_findings.specs.declared.also.LinesOf.TheVariants.{Entry, Frames, Altered}
use Rattle.aud_findings.specs.declared.ranges.Range.{Range}
use Rattle.aud_findings.specs.declared.outcome.AlsoShown.{AlsoShown}
use Rattle.aud_findings.specs.declared.outcome.OthersShown.{OthersShown}
use Rattle.aud_findings.specs.Received.{greatest, tail_positions}

-- ---- which entries

-- how often the position was received
abbrev pub times : List ℕ → ℕ → ℕ
times received p = count_by (λ q. nat_eq q p) received

-- it was received again
abbrev pub is_again : List ℕ → ℕ → Bool
is_again received p = nat_lt 1 (times received p)

-- it was received too late: after one that comes after it
abbrev pub is_late : List ℕ → ℕ → Bool
is_late [] p = false
is_late (q ∷ received) p = if nat_lt p q then has_position received p else is_late received p

-- it was passed over: it was not received, and one after it was
abbrev pub is_passed : List ℕ → ℕ → Bool
is_passed received p = not (has_position received p) && nat_lt p (greatest received)

-- it has the fault of the difference too, and is another one: it was received and was not due; or it was due, and was
-- received again, or too late, or passed over
abbrev pub is_also : List ℕ → List ℕ → Difference → ℕ → Bool
is_also received due (Extra frame position) p = has_position received p && (not (has_position due p) && not (nat_eq p position))
is_also received due (Doubled first again position) p = has_position due p && (is_again received p && not (nat_eq p position))
is_also received due (Swapped frame position later) p = has_position due p && (is_late received p && not (nat_eq p position))
is_also received due (Lost frame position) p = has_position due p && (is_passed received p && not (nat_eq p position))

-- these are all positions that pass the test, ascending
pub record AreAllOf (test : ℕ → Bool) (positions : List ℕ) : Type 0 where
  pub ascending : IsAscending positions
  pub all : (p : ℕ) → has_position positions p ≡ test p

-- the positions of the frames that aren't the entry there, in the order in which they came
abbrev pub altered_positions : List StreamRec → List FrameSeen → List ℕ
altered_positions stream frames = map (λ (frame : FrameSeen). frame.position) (filter (λ frame. not (is_entry stream frame)) frames)

-- it is one of these, and another one than the first, which is shown
abbrev pub is_another : List ℕ → ℕ → Bool
is_another [] p = false
is_another (first ∷ positions) p = has_position positions p && not (nat_eq p first)

-- ---- in ranges

-- how many of the positions go on from the one before them, each being the next one
abbrev pub following : ℕ → List ℕ → ℕ
following p [] = 0
following p (q ∷ positions) = if nat_eq q (p + 1) then suc (following q positions) else 0

-- of the positions at most so many ranges, from the front, each as long as it can be
unfoldable pub ranges : ℕ → List ℕ → List Range
ranges most [] = []
ranges zero (p ∷ positions) = []
ranges (suc most) (p ∷ positions) =
    record { first = p; last = p + following p positions } ∷ ranges most (drop (following p positions) positions)

-- the positions that are left after these
unfoldable pub past_ranges : ℕ → List ℕ → List ℕ
past_ranges most [] = []
past_ranges zero (p ∷ positions) = p ∷ positions
past_ranges (suc most) (p ∷ positions) = past_ranges most (drop (following p positions) positions)

-- ---- their lines

-- the line of a row, if there is one
abbrev pub line_of : Option RowSeen → List ℕ
line_of row = option_to_list (option_map (λ (r : RowSeen). r.line) row)

-- the row of the frame with this number, over the stays of the client's tap at the place with these numbers
abbrev pub frame_row_at : Cluster → List TapLines → ℕ → List ℕ → ℕ → Role → Option RowSeen
frame_row_at c lines place numbers frame role =
    option_and_then (λ (at : FramePlace). frame_row c lines place at.stay at.frame role) (frame_at (stays_at c place) numbers frame)

-- the line of the entry, but where its frames alone show it
abbrev pub entry_lines : LinesOf → Cluster → List TapLines → ℕ → List ℕ
entry_lines Frames c lines p = []
entry_lines _ c lines p = line_of (stream_row c lines p role.Entry)

-- the frame shows it: one that came of the position, of an altered one where it isn't the entry there; none of an entry
-- that never came
abbrev pub is_shown : LinesOf → List StreamRec → ℕ → FrameSeen → Bool
is_shown Entry stream p frame = false
is_shown Frames stream p frame = nat_eq frame.position p
is_shown Altered stream p frame = nat_eq frame.position p && not (is_entry stream frame)

-- the lines of those of these frames that show it, of which the first has this number
abbrev pub frame_lines : LinesOf → Cluster → List TapLines → ℕ → List ℕ → ℕ → ℕ → List FrameSeen → List ℕ
frame_lines by c lines place numbers p number [] = []
frame_lines by c lines place numbers p number (frame ∷ frames) =
    (if is_shown by c.stream p frame then line_of (frame_row_at c lines place numbers number role.Later) else [])
    ++ frame_lines by c lines place numbers p (suc number) frames

-- the lines that show it
abbrev pub lines_of : LinesOf → Cluster → List TapLines → ℕ → List ℕ → List FrameSeen → ℕ → List ℕ
lines_of by c lines place numbers frames p = entry_lines by c lines p ++ frame_lines by c lines place numbers p 0 frames

-- ---- what is told of them

-- a range of other entries, and the lines that show it
pub record AlsoSeen : Type 0 where
  pub position : ℕ
  pub to : ℕ
  pub lines : List ℕ

abbrev pub also_seen : AlsoShown → AlsoSeen
also_seen also = record { position = also.position; to = also.to; lines = also.lines.items }

-- ranges of them, and how many more of them there are
pub record OthersSeen : Type 0 where
  pub ranges : List AlsoSeen
  pub left : ℕ

abbrev pub others_seen : OthersShown → OthersSeen
others_seen others = record { ranges = map also_seen others.ranges.items; left = others.left }

-- there are none
abbrev pub no_others : OthersSeen
no_others = record { ranges = []; left = 0 }

-- the first of the lines of the first entry, and the last of those of the last one
abbrev pub end_lines : List ℕ → List ℕ → List ℕ
end_lines first last = take 1 first ++ option_to_list (slice_get last (length last - 1))

-- the range, where these are the lines of its first entry and of its last one: of one entry all of them
abbrev pub range_shown : Range → List ℕ → List ℕ → AlsoSeen
range_shown range first last =
    record { position = range.first; to = range.last; lines = if nat_eq range.first range.last then first else end_lines first last }

-- the same, where these are the lines of an entry
abbrev pub range_also : (ℕ → List ℕ) → Range → AlsoSeen
range_also lines_at range = range_shown range (lines_at range.first) (lines_at range.last)

-- of these entries a hundred ranges at most, and how many entries are left
abbrev pub told_of : (ℕ → List ℕ) → List ℕ → OthersSeen
told_of lines_at positions = record { ranges = map (range_also lines_at) (ranges 100 positions); left = length (past_ranges 100 positions) }

-- ---- those of a session

-- those of a difference: as they were lost, or as they came
abbrev pub lines_for : Difference → LinesOf
lines_for (Lost frame position) = Entry
lines_for _ = Frames

-- these are all others with the fault of the difference between what the stays received and what was due
pub record AreParted (stays : List StaySeen) (due : List ℕ) (by : LinesOf) (others : List ℕ) : Type 0 where
  pub difference : Difference
  pub is_difference : IsDifference (positions_received stays) due difference
  pub by_is : by ≡ lines_for difference
  pub are_all : AreAllOf (is_also (positions_received stays) due difference) others

-- these are all others with the fault, where the stays received it and these positions were due: that what was received
-- parts from what was due; that a frame isn't its entry; or a tail
abbrev pub AreOthers : List StreamRec → List StaySeen → List ℕ → Fault → LinesOf → List ℕ → Type 0
AreOthers stream stays due (fault.Extra off) by others = AreParted stays due by others
AreOthers stream stays due (fault.Doubled off) by others = AreParted stays due by others
AreOthers stream stays due (fault.Swapped off) by others = AreParted stays due by others
AreOthers stream stays due (fault.Lost off) by others = AreParted stays due by others
AreOthers stream stays due (fault.Content off) by others = (by ≡ Altered) × AreAllOf (is_another (altered_positions stream (frames_in stays))) others
AreOthers stream stays due (fault.Tail count) by others = (by ≡ Entry) × AreAllOf (is_another (tail_positions (positions_received stays) due)) others
AreOthers stream stays due _ by others = ⊥

-- that what was received parts from what was due isn't what is wrong first
abbrev pub IsNotParted : Cluster → ℕ → List StaySeen → List ℕ → Type 0
IsNotParted c client stays due = (found : Option Finding) × IsFound c client stays due found × (difference_found found ≡ None)

-- no others are told of: what was received doesn't part from what was due, or the fault is none of these
abbrev pub HasNoOthers : Cluster → ℕ → List StaySeen → List ℕ → Fault → Type 0
HasNoOthers c client stays due (fault.Extra off) = IsNotParted c client stays due
HasNoOthers c client stays due (fault.Doubled off) = IsNotParted c client stays due
HasNoOthers c client stays due (fault.Swapped off) = IsNotParted c client stays due
HasNoOthers c client stays due (fault.Lost off) = IsNotParted c client stays due
HasNoOthers c client stays due (fault.Content off) = ⊥
HasNoOthers c client stays due (fault.Tail count) = ⊥
HasNoOthers c client stays due _ = Unit {0}

-- this is told of the others with the fault of the session
pub record AreTold (c : Cluster) (lines : List TapLines) (pid : Text) (s : SessionLogs) (fault : Fault) (also : OthersSeen) : Type 0 where
  pub numbers : List ℕ
  pub are_its_stays : AreNumbersOf c pid s.client numbers
  pub by : LinesOf
  pub others : List ℕ
  pub are_others : AreOthers c.stream (own_stays c s) (due_to c s) fault by others
  pub are : also ≡ told_of (lines_of by c lines s.client numbers (frames_in (own_stays c s))) others

-- and of the session with this pid; none where no others are told of
pub record AreAlso (c : Cluster) (lines : List TapLines) (pid : Text) (fault : Fault) (also : OthersSeen) : Type 0 where
  pub session : SessionLogs
  pub is_session : IsSession c pid session
  pub are : AreTold c lines pid session fault also ⊎ (HasNoOthers c session.client (own_stays c session) (due_to c session) fault × (also ≡ no_others))

-- they are told of a fault where the session's turns and its client are known; else there are none
abbrev pub IsAlsoShown : Cluster → List TapLines → Text → Bool → Verdict → OthersSeen → Type 0
IsAlsoShown c lines pid true (No fault) also = AreAlso c lines pid fault also
IsAlsoShown c lines pid true (Yes got tail turns) also = also ≡ no_others
IsAlsoShown c lines pid false verdict also = also ≡ no_others
