-- Reading in steps, each of which may refuse, and what a function answers for it.
use Rattle.std.specs.Prelude.{◌≡◌, Bool, if◌then◌else◌, Option, Some, None, Result, Ok, Err}

infixl 10 ◌>>=◌
-- one step, then the next with its value; the first fault stands
abbrev pub ◌>>=◌ : {A B E : Type 0} → Result A E → (A → Result B E) → Result B E
(Ok x) >>= f = f x
(Err e) >>= f = Err e

-- a value that has to be there, or else this fault
abbrev pub need : {A E : Type 0} → E → Option A → Result A E
need fault None = Err fault
need fault (Some x) = Ok x

-- a test that has to hold, or else this fault
abbrev pub guard : {E : Type 0} → E → Bool → Result (Unit {0}) E
guard fault holds = if holds then Ok tt else Err fault

-- what a function returned, seen by view, is what the reading gives, unless this fault came: running out of memory
abbrev pub GivesUnless : {X Y E : Type 0} → E → (X → Y) → Result X E → Result Y E → Type 0
GivesUnless memory view (Ok x) reading = reading ≡ Ok (view x)
GivesUnless memory view (Err e) reading = ¬ (e ≡ memory) → reading ≡ Err e
