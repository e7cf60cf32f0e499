use Rattle.std.proofs.Common.{arith}
use Rattle.std.specs.String.{string_bytes}
use Rattle.std.proofs.lemmas.Option.{slice_get-map}
use Rattle.aud_parts.proofs.plan.sessions.Sessions.pid.Goals as goal

pub returns : goal.returns
returns c =
    rw (← c.self.view_is)
    (grind (arith, slice_get-map string_bytes c.self.inside.pids.keys c.args.number))
