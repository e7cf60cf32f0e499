use Rattle.std.proofs.Common.{◌≡◌, ◌+◌, drop}
use Rattle.aud_json.specs.View.{list_view}
use Rattle.aud_refusals.specs.Excess.{items_excess}
use Rattle.aud_refusals.proofs.excess.items_excess.Given as goal

-- those so far are within the limit
abbrev pub invariant-loop-number : goal.invariant-loop-number
invariant-loop-number l = items_excess l.member 1 l.most (list_view l.items) ≡ items_excess l.member (l.number + 1) l.most (list_view (drop l.number l.items))
