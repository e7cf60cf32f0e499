-- What an upgrade keeps: the sessions, their order, and the verdict on each.
use Rattle.std.specs.Prelude.{◌≡◌, Bool, List}
use Rattle.aud_tap.specs.declared.taps.Tap.{Tap}
use Rattle.aud_node.specs.Stream.{Text}
use Rattle.aud_node.specs.Cluster.{cluster_of}
use Rattle.aud_maker.specs.Sessions.{sessions_of}
use Rattle.aud_verdict.specs.declared.verdict.Verdict.{Verdict}
use Rattle.aud_verdict.specs.Verdict.{IsVerdict}
use Rattle.aud_upgrade.specs.declared.joins.Joins.{Joins}
use Rattle.aud_upgrade.specs.Upgraded.{upgraded_by}

-- both have the same sessions in the same order, and each session the same verdict, whether the whole is asked for or
-- not
pub record AreJudgedAlike (taps others : List Tap) : Type 0 where
  pub sessions : sessions_of (cluster_of others) ≡ sessions_of (cluster_of taps)
  pub kept : (whole : Bool) (pid : Text) (verdict : Verdict) → IsVerdict (cluster_of taps) whole pid verdict → IsVerdict (cluster_of others) whole pid verdict
  pub not_new : (whole : Bool) (pid : Text) (verdict : Verdict) → IsVerdict (cluster_of others) whole pid verdict → IsVerdict (cluster_of taps) whole pid verdict

-- whatever taps are upgraded, and whatever is joined
abbrev pub UpgradesKeepVerdicts : Type 0
UpgradesKeepVerdicts = (joins : Joins) (taps : List Tap) → AreJudgedAlike taps (upgraded_by joins taps)
