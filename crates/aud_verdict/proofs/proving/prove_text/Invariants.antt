use Rattle.std.proofs.Common.{◌≡◌, take, flat_map, string_bytes}
use Rattle.aud_verdict.specs.Proving.{proof_line}
use Rattle.aud_verdict.proofs.proving.prove_text.Given as goal

-- the certificates of the sessions that were gone over
abbrev pub invariant-loop-proof : goal.invariant-loop-proof
invariant-loop-proof l = string_bytes l.out ≡ flat_map proof_line (take l.proof-index l.proofs)
