use Rattle.std.proofs.Common.{map, take}
use Rattle.aud_tap.specs.RecordFields.{offset_of}
use Rattle.aud_reader.specs.Private.Texts.{HasTexts}
use Rattle.aud_reader.proofs.bundle.offsets.offsets_of.Given as goal

abbrev pub invariant-loop-i : goal.invariant-loop-i
invariant-loop-i l = HasTexts l.set (map offset_of (take l.i l.entries))
