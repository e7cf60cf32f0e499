use Rattle.std.proofs.Common.{◌≡◌, ◌+◌, drop, map}
use Rattle.aud_refusals.specs.NoPacket.{engine_refusal}
use Rattle.aud_refusals.proofs.texts.engine_refusal.Given as goal

-- what is to come gives the refusal
abbrev pub invariant-loop-i : goal.invariant-loop-i
invariant-loop-i l = engine_refusal (l.i + 1) (map (λ text. text.now) (drop l.i l.texts)) ≡ engine_refusal 1 (map (λ text. text.now) l.texts)
