use Rattle.std.proofs.Common.{◌≡◌, drop, map, option_map}
use Rattle.aud_causes.specs.declared.cause.Cause.TheVariants.{SidDiffers}
use Rattle.aud_causes.specs.Names.{other_sid}
use Rattle.aud_causes.proofs.names.sid_differs.Given as goal

-- what is to come gives the stay
abbrev pub invariant-loop-stay : goal.invariant-loop-stay
invariant-loop-stay l =
    option_map SidDiffers (other_sid l.sid l.stay (map (λ stay. stay.now) (drop l.stay l.stays)))
    ≡ option_map SidDiffers (other_sid l.sid 0 (map (λ stay. stay.now) l.stays))
