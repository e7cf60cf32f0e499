use Rattle.std.proofs.Common.{◌≡◌, drop}
use Rattle.aud_json.specs.View.{view}
use Rattle.aud_refusals.specs.Members.{first_unformed}
use Rattle.aud_refusals.proofs.members.first_unformed.Given as goal

-- those so far are formed
abbrev pub invariant-loop-member : goal.invariant-loop-member
invariant-loop-member l = first_unformed l.members (view l.d) ≡ first_unformed (drop l.member-index l.members) (view l.d)
