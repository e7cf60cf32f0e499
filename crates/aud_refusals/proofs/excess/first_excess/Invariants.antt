use Rattle.std.proofs.Common.{◌≡◌, drop}
use Rattle.aud_json.specs.View.{view}
use Rattle.aud_refusals.specs.Excess.{first_excess}
use Rattle.aud_refusals.proofs.excess.first_excess.Given as goal

-- those so far are within their limits
abbrev pub invariant-loop-member : goal.invariant-loop-member
invariant-loop-member l = first_excess l.members (view l.d) ≡ first_excess (drop l.member-index l.members) (view l.d)
