-- The verdicts on the sessions of a recording.
use Rattle.std.specs.Prelude.{◌≡◌, ℕ, Bool, List, Some, slice_get}
use Rattle.aud_node.specs.Stream.{Text}
use Rattle.aud_node.specs.Cluster.{Cluster}
use Rattle.aud_verdict.specs.declared.verdict.Verdict.{Verdict}
use Rattle.aud_verdict.specs.declared.verdict.SessionVerdict.{SessionVerdict}
use Rattle.aud_base.specs.OneForEach.{OneForEach}
use Rattle.aud_verdict.specs.Verdict.{IsVerdict}
use Rattle.aud_verdict.specs.Judged.{HasCertificate}
use Rattle.aud_verdict.specs.EveryRun.{HoldsInEveryRun}

-- this is the verdict on the session of this pid, with or without `--whole`; where it is yes an accepted
-- certificate shows it; and what it says holds in every run
abbrev pub IsVerdictOn : Cluster → Bool → Text → Verdict → Type 0
IsVerdictOn c whole pid verdict = IsVerdict c whole pid verdict × HasCertificate c pid verdict × HoldsInEveryRun c pid verdict

-- this is the verdict on the session with this index
abbrev pub IsVerdictAt : Cluster → Bool → List Text → ℕ → Verdict → Type 0
IsVerdictAt c whole pids index verdict = (pid : Text) × (slice_get pids index ≡ Some pid) × IsVerdictOn c whole pid verdict

-- the verdict on the session of this pid, under its name
abbrev pub IsSessionVerdict : Cluster → Bool → Text → SessionVerdict → Type 0
IsSessionVerdict c whole pid entry = (entry.pid ≡ pid) × IsVerdictOn c whole pid entry.verdict

-- the verdicts on these sessions, one for each, in order
abbrev pub AreVerdicts : Cluster → Bool → List Text → List SessionVerdict → Type 0
AreVerdicts c whole = OneForEach (IsSessionVerdict c whole)
