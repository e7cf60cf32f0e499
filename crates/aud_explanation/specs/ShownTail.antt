-- The tail of an account.
use Rattle.std.specs.Prelude.{ℕ, Option, Some, None}
use Rattle.aud_cert.specs.declared.fault.Fault.{Fault}
use Rattle.aud_cert.specs.declared.fault.Fault.TheVariants.{Tail}
use Rattle.aud_verdict.specs.declared.verdict.Verdict.{Verdict}
use Rattle.aud_verdict.specs.declared.verdict.Verdict.TheVariants.{Yes, No}

-- how many due events after the last one received did not come, where that is the fault
abbrev pub tail_under : Fault → ℕ → Option ℕ
tail_under (Tail count) tail = Some tail
tail_under _ tail = None

-- the same, where the verdict is a yes or that is the fault: under another fault what came may be no front of what was
-- due, and what is left of that no tail
abbrev pub shown_tail : Verdict → ℕ → Option ℕ
shown_tail (Yes got count turns) tail = Some tail
shown_tail (No fault) tail = tail_under fault tail
