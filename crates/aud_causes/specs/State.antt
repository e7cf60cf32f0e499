-- How a cause stands among those that hold of one fault.
use Rattle.std.specs.Prelude.{ℕ, Bool, true, false, not, ◌||◌, List, count_by, length, if◌then◌else◌, nat_eq}
use Rattle.aud_explanation.specs.declared.cause.CauseState.{CauseState}
use Rattle.aud_explanation.specs.declared.cause.CauseState.TheVariants.{Certain, Holds, Fits}
use Rattle.aud_causes.specs.declared.cause.Cause.{Cause}
use Rattle.aud_causes.specs.declared.cause.Cause.TheVariants.{SidDiffers, NamespaceDiffers, NoStart, RestartedInOldLog, EntriesSkippedByNode, EntryTakenAgain, NotInStream, MissingBreak, ClearedAfterBreak}

-- no other cause of its fault speaks of what it speaks of, so that it excludes none and none excludes it: of `NAMES` the
-- sid, or the namespace; of `ORDER` the log of its node; of `CHAIN` the break of its turn, or what a log has after a break
abbrev pub is_apart : Cause → Bool
is_apart (SidDiffers stay) = true
is_apart (NamespaceDiffers stay) = true
is_apart (NoStart first) = true
is_apart (RestartedInOldLog start) = true
is_apart (EntriesSkippedByNode taken cursor position) = true
is_apart (EntryTakenAgain taken cursor position) = true
is_apart (NotInStream taken) = true
is_apart (MissingBreak turn begin back stay) = true
is_apart (ClearedAfterBreak broke cleared) = true
is_apart _ = false

-- only one of these causes is not so: it too excludes none of them
abbrev pub has_one_other : List Cause → Bool
has_one_other found = nat_eq (count_by (λ cause. not (is_apart cause)) found) 1

-- of the only cause that holds, where others were ruled out, or not
abbrev pub lone_state : Bool → CauseState
lone_state true = Certain
lone_state false = Fits

-- of one of several, where it excludes none of them, or others speak of the same
abbrev pub state_beside : Bool → CauseState
state_beside true = Holds
state_beside false = Fits

-- how a cause stands among so many that hold, of which only one is not so, or not, where there are others that were
-- ruled out, or not
abbrev pub state_among : Bool → ℕ → Bool → Cause → CauseState
state_among others count one cause = if nat_eq count 1 then lone_state others else state_beside (is_apart cause || one)

-- the same among these, which are all that hold
abbrev pub state_of : Bool → List Cause → Cause → CauseState
state_of others found cause = state_among others (length found) (has_one_other found) cause
