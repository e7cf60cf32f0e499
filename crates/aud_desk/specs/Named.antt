-- A verdict under the name of its session.
use Rattle.std.specs.Prelude.{String, string_bytes}
use Rattle.aud_verdict.specs.declared.verdict.Verdict.{Verdict}
use Rattle.aud_verdict.specs.declared.verdict.SessionVerdict.{SessionVerdict}

-- a session's text and its verdict
abbrev pub session_verdict : {Z : Type 0} → String Z × Verdict → SessionVerdict
session_verdict p = record { pid = string_bytes p.0; verdict = p.1 }
