-- Events that go on with one another.
use Rattle.std.specs.Prelude.{ℕ, suc, ◌-◌, Bool, List, [], ◌∷◌, Option, Some, None, nat_eq, if◌then◌else◌}
use Rattle.aud_base.specs.Lists.{numbers_from}
use Rattle.aud_explanation.specs.declared.event.ClientEvent.{ClientEvent}
use Rattle.aud_explanation.specs.declared.event.Happens.{Happens}
use Rattle.aud_explanation.specs.declared.event.Happens.TheVariants.{Got, Lost}

-- the entries from one position to another, and those after them, where these begin at the next position
abbrev pub run_on : ℕ → ℕ → ℕ → ℕ → Option Happens
run_on from to after last = if nat_eq after (suc to) then Some (Got from last) else None

-- what happens as one: entries, and after them those from the next position on; and the loss of one connection, which
-- ends each of its stays
abbrev pub joined_happens : Bool → Happens → Happens → Option Happens
joined_happens one_line (Got from to) (Got after last) = run_on from to after last
joined_happens one_line Lost Lost = if one_line then Some Lost else None
joined_happens one_line _ _ = None

-- the event with the next one, where that goes on with it
abbrev pub joined_as : ClientEvent → ClientEvent → Option Happens → Option ClientEvent
joined_as event next None = None
joined_as event next (Some happens) = Some (record { first = event.first; last = next.last; happens = happens })

abbrev pub joined : ClientEvent → ClientEvent → Option ClientEvent
joined event next = joined_as event next (joined_happens (nat_eq event.last next.first) event.happens next.happens)

-- the two, or what they are as one
abbrev pub one_or_two : ClientEvent → ClientEvent → Option ClientEvent → List ClientEvent
one_or_two event next None = event ∷ next ∷ []
one_or_two event next (Some both) = both ∷ []

-- the events, and after them one more, which may go on with the last
abbrev pub extended : List ClientEvent → ClientEvent → List ClientEvent
extended [] next = next ∷ []
extended (event ∷ []) next = one_or_two event next (joined event next)
extended (event ∷ later ∷ events) next = event ∷ extended (later ∷ events) next

-- these events, and after them those
abbrev pub extended_by : List ClientEvent → List ClientEvent → List ClientEvent
extended_by events [] = events
extended_by events (next ∷ more) = extended_by (extended events next) more

-- events, each joined to the one in front of it where it goes on with that
abbrev pub joined_events : List ClientEvent → List ClientEvent
joined_events events = extended_by [] events

-- ---- the entries that events tell of

-- the positions of the entries that the client received
abbrev pub positions_in : Happens → List ℕ
positions_in (Got from to) = numbers_from from (suc to - from)
positions_in _ = []

abbrev pub positions_told : ClientEvent → List ℕ
positions_told event = positions_in event.happens
