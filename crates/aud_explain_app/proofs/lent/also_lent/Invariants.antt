use Rattle.std.proofs.Common.{◌≡◌, map, take}
use Rattle.aud_findings.specs.Also.{also_seen}
use Rattle.aud_explain_app.specs.Lent.{also_told}
use Rattle.aud_explain_app.proofs.lent.also_lent.Given as goal

abbrev pub invariant-loop-other : goal.invariant-loop-other
invariant-loop-other l = map also_told l.lent.items ≡ map also_seen (take l.other-index l.others)
