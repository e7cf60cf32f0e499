use Rattle.std.proofs.Common.{◌≡◌, max, min, vec_len}
use Rattle.aud_parts.proofs.plan.placing.place_units.Given as goal

abbrev pub invariant-loop-part : goal.invariant-loop-part
invariant-loop-part l = vec_len l.loads ≡ l._part

abbrev pub invariant-loop-ranked : goal.invariant-loop-ranked
invariant-loop-ranked l = vec_len l.loads ≡ max (min l.most (vec_len l.fn.units)) 1

abbrev pub invariant-loop-load : goal.invariant-loop-load
invariant-loop-load l = vec_len l.weights ≡ l.load-index
