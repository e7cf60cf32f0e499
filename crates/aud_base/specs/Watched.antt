-- What contracts see of a watched reader or writer.
use Rattle.std.specs.Prelude.{ℕ, Bool, false, ◌==◌, Result, Ok, Err}
use Rattle.aud_base.specs.declared.watched.Watched.{Watched}

-- the reader or writer that calls are handed on to
abbrev pub inner_of : {T : Type 0} → Watched T → T
inner_of w = w.inner

-- how many calls were handed on, which stops at the greatest u64
abbrev pub calls_of : {T : Type 0} → Watched T → ℕ
calls_of w = w.calls

-- whether a call failed, or a write took no bytes
abbrev pub has_failed : {T : Type 0} → Watched T → Bool
has_failed w = w.failed

-- a write took no bytes
abbrev pub took_none : {E : Type 0} → Result ℕ E → Bool
took_none (Ok n) = n == 0
took_none (Err e) = false
