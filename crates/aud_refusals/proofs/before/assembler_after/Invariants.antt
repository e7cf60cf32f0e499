use Rattle.std.proofs.Common.{[], take}
use Rattle.aud_refusals.specs.NoPacket.{messages_before}
use Rattle.aud_refusals.specs.Private.Fed.{Passes}
use Rattle.aud_refusals.proofs.before.assembler_after.Given as goal

abbrev pub invariant-loop-rec : goal.invariant-loop-rec
invariant-loop-rec l = Passes [] (messages_before (take l.rec-index l.recs)) l.assembler
