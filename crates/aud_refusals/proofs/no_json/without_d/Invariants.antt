use Rattle.std.proofs.Common.{◌≡◌, map, take}
use Rattle.aud_refusals.specs.NoJson.{no_d}
use Rattle.aud_refusals.proofs.no_json.without_d.Given as goal

-- those so far
abbrev pub invariant-loop-b : goal.invariant-loop-b
invariant-loop-b l = l.out.items ≡ map no_d (take l.b-index l.bytes)
