-- The verdict on a session.
use Rattle.std.specs.Prelude.{◌≡◌, ◌+◌, ℕ, zero, suc, Bool, if◌then◌else◌, length}
use Rattle.aud_node.specs.Stream.{Text}
use Rattle.aud_node.specs.Cluster.{Cluster}
use Rattle.aud_cert.specs.declared.fault.Fault.TheVariants.{Tail}
use Rattle.aud_verdict.specs.declared.verdict.Verdict.{Verdict}
use Rattle.aud_verdict.specs.declared.verdict.Verdict.TheVariants.{Yes, No}
use Rattle.aud_verdict.specs.Session.{SessionLogs, IsSession, received_by, due_to}
use Rattle.aud_verdict.specs.Faults.{NoneHolds, HoldsFirst}

-- no fault holds; so many due events were received, so many after the last of them weren't, over so many turns
pub record IsYes (c : Cluster) (whole : Bool) (pid : Text) (got tail turns : ℕ) : Type 0 where
  pub none_holds : NoneHolds c whole pid
  pub session : SessionLogs
  pub is_session : IsSession c pid session
  pub got_is : got ≡ length (received_by c session)
  pub tail_is : got + tail ≡ length (due_to c session)
  pub turns_are : turns ≡ length session.turns

-- the verdict, with or without `--whole`: no with the first fault that holds, and else yes with its numbers
abbrev pub IsVerdict : Cluster → Bool → Text → Verdict → Type 0
IsVerdict c whole pid (Yes got tail turns) = IsYes c whole pid got tail turns
IsVerdict c whole pid (No fault) = HoldsFirst c whole pid fault

-- what becomes of a verdict where the whole is asked for: a yes with a tail is a no for it, and all others stay
abbrev pub of_whole : Verdict → Verdict
of_whole (Yes got zero turns) = Yes got zero turns
of_whole (Yes got (suc more) turns) = No (Tail (suc more))
of_whole (No fault) = No fault

-- what becomes of a verdict that was found without asking for the whole, where it is asked for or isn't
abbrev pub asked_so : Bool → Verdict → Verdict
asked_so whole verdict = if whole then of_whole verdict else verdict
