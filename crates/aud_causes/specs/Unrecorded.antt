-- A recovery of which no log has the turn.
use Rattle.std.specs.Prelude.{◌-◌, List, length, Option, None, if◌then◌else◌, slice_get}
use Rattle.std.specs.Option.{option_map}
use Rattle.aud_client.specs.StaySeen.{StaySeen}
use Rattle.aud_cert.specs.Certificate.{TurnSeen}
use Rattle.aud_causes.specs.declared.cause.Cause.{Cause}
use Rattle.aud_causes.specs.declared.cause.Cause.TheVariants.{RecoveryNotRecorded}
use Rattle.aud_causes.specs.declared.facts.Facts.{Facts}
use Rattle.aud_causes.specs.Logs.{recoveries}

-- the later frame came in a recovery, and the client was taken back more often in these stays than there are turns after
-- the first of these: a node took the session back, and no log has the `back`; the first recovery past so many
abbrev pub recovery_not_recorded : List TurnSeen → List StaySeen → Facts → Option Cause
recovery_not_recorded turns stays f =
    let came = recoveries stays in
    let after = length turns - 1 in
    if f.recovered then option_map (λ stay. RecoveryNotRecorded stay (length came) after) (slice_get came after) else None
