use Rattle.std.proofs.Common.{take}
use Rattle.aud_findings.specs.Private.ReadTaps.{AreWanted}
use Rattle.aud_findings.proofs.prepared.wanted_of.Given as goal

-- the places so far are marked
abbrev pub invariant-loop-place : goal.invariant-loop-place
invariant-loop-place l = AreWanted l.count (take l.place-index l.places) l.wanted.items
