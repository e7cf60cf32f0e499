-- The faults of a schedule, and the numbers of its acts.
use Rattle.std.specs.Prelude.{◌≡◌, ℕ, ⊤, List, [], ◌∷◌, ◌++◌, Option, Some, None, option_to_list}
use Rattle.std.specs.Option.{option_map_or}
use Rattle.aud_sim.specs.declared.act.Act.{Act}
use Rattle.aud_sim.specs.declared.act.Act.TheVariants.{Emit, Volatile, Take, Connect, ConnectUnanswered, ConnectMisnamed, Join, Leave, Cut, Recover, RecoverLagging, RecoverUnknown, RecoverUnanswered, Finish, DropNext, DoubleNext, HoldNext, AlterNext, GarbleNext, ShortenNext, LoseLine, RepeatLine}
use Rattle.aud_schedule.specs.declared.plan.Fault.{Fault}
use Rattle.aud_schedule.specs.declared.plan.Fault.TheVariants as fault
use Rattle.aud_schedule.specs.declared.course.Size.{Size}
use Rattle.aud_schedule.specs.Size.{IsUpTo}

-- what an act that is a fault does wrong
pub data Kind : Type 0 where
  -- to the next frame of a client
  Dropped : Kind
  Doubled : Kind
  Held : Kind
  Altered : Kind
  Garbled : Kind
  Shortened : Kind
  -- in a recovery
  Lagging : Kind
  Unknown : Kind
  UnansweredBack : Kind
  -- in the reply to a client that opens a session
  Unanswered : Kind
  Misnamed : Kind
  -- to the line of the act after it
  LostOpen : Kind
  LostJoin : Kind
  LostBreak : Kind
  LostOther : Kind
  RepeatedTake : Kind
  RepeatedOther : Kind

-- where the line of this act is lost
abbrev pub lost_by : Act → Kind
lost_by (Connect client node) = LostOpen
lost_by (Join client room) = LostJoin
lost_by (Cut client) = LostBreak
lost_by act = LostOther

-- where the line of this act is written twice
abbrev pub repeated_by : Act → Kind
repeated_by (Take node) = RepeatedTake
repeated_by act = RepeatedOther

-- the first of the acts, where there is one
abbrev pub next_act : List Act → Option Act
next_act [] = None
next_act (act ∷ acts) = Some act

-- what an act does wrong, if it is a fault; a fault of the nodes' logs by the act after it
abbrev pub fault_of : Act → Option Act → Option Kind
fault_of (ConnectUnanswered client node) next = Some Unanswered
fault_of (ConnectMisnamed client node) next = Some Misnamed
fault_of (RecoverLagging client node) next = Some Lagging
fault_of (RecoverUnknown client node) next = Some Unknown
fault_of (RecoverUnanswered client node) next = Some UnansweredBack
fault_of (DropNext client) next = Some Dropped
fault_of (DoubleNext client) next = Some Doubled
fault_of (HoldNext client) next = Some Held
fault_of (AlterNext client) next = Some Altered
fault_of (GarbleNext client) next = Some Garbled
fault_of (ShortenNext client) next = Some Shortened
fault_of LoseLine next = Some (option_map_or lost_by next LostOther)
fault_of RepeatLine next = Some (option_map_or repeated_by next RepeatedOther)
fault_of act next = None

-- the faults of acts, in their order
abbrev pub faults : List Act → List Kind
faults [] = []
faults (act ∷ acts) = option_to_list (fault_of act (next_act acts)) ++ faults acts

-- what the act does wrong by which a fault comes
abbrev pub kind_of : Fault → Kind
kind_of fault.Drop = Dropped
kind_of fault.Double = Doubled
kind_of fault.Hold = Held
kind_of fault.Alter = Altered
kind_of fault.Garble = Garbled
kind_of fault.LoseAttachment = Shortened
kind_of fault.Lag = Lagging
kind_of fault.UnknownOffset = Unknown
kind_of fault.CutBeforeReply = UnansweredBack
kind_of fault.NoReply = Unanswered
kind_of fault.OtherSid = Misnamed
kind_of fault.NoOpen = LostOpen
kind_of fault.NoJoin = LostJoin
kind_of fault.NoBreak = LostBreak
kind_of fault.TakeTwice = RepeatedTake

-- the act names no client and no node but those of a cluster of so many nodes and clients
abbrev pub IsWithin : ℕ → ℕ → Act → Type 0
IsWithin nodes clients (Emit rooms except word bin) = ⊤
IsWithin nodes clients (Volatile client word) = IsUpTo clients client
IsWithin nodes clients (Take node) = IsUpTo nodes node
IsWithin nodes clients (Connect client node) = IsUpTo clients client × IsUpTo nodes node
IsWithin nodes clients (ConnectUnanswered client node) = IsUpTo clients client × IsUpTo nodes node
IsWithin nodes clients (ConnectMisnamed client node) = IsUpTo clients client × IsUpTo nodes node
IsWithin nodes clients (Join client room) = IsUpTo clients client
IsWithin nodes clients (Leave client room) = IsUpTo clients client
IsWithin nodes clients (Cut client) = IsUpTo clients client
IsWithin nodes clients (Recover client node) = IsUpTo clients client × IsUpTo nodes node
IsWithin nodes clients (RecoverLagging client node) = IsUpTo clients client × IsUpTo nodes node
IsWithin nodes clients (RecoverUnknown client node) = IsUpTo clients client × IsUpTo nodes node
IsWithin nodes clients (RecoverUnanswered client node) = IsUpTo clients client × IsUpTo nodes node
IsWithin nodes clients (Finish client) = IsUpTo clients client
IsWithin nodes clients (DropNext client) = IsUpTo clients client
IsWithin nodes clients (DoubleNext client) = IsUpTo clients client
IsWithin nodes clients (HoldNext client) = IsUpTo clients client
IsWithin nodes clients (AlterNext client) = IsUpTo clients client
IsWithin nodes clients (GarbleNext client) = IsUpTo clients client
IsWithin nodes clients (ShortenNext client) = IsUpTo clients client
IsWithin nodes clients LoseLine = ⊤
IsWithin nodes clients RepeatLine = ⊤

-- an act of a cluster of this size that is no fault
pub record IsQuiet (size : Size) (act : Act) : Type 0 where
  pub no_fault : fault_of act None ≡ None
  pub within : IsWithin size.nodes size.clients act
