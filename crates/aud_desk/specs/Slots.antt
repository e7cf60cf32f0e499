-- A place for each session's verdict.
use Rattle.std.specs.Prelude.{◌≡◌, ℕ, List, Option, Some, slice_get}
use Rattle.aud_verdict.specs.declared.verdict.Verdict.{Verdict}

-- this verdict is at the place
abbrev pub HasVerdict : List (Option Verdict) → ℕ → Verdict → Type 0
HasVerdict slots i verdict = slice_get slots i ≡ Some (Some verdict)

-- a verdict is at the place
abbrev pub IsFull : List (Option Verdict) → ℕ → Type 0
IsFull slots i = (verdict : Verdict) × HasVerdict slots i verdict
