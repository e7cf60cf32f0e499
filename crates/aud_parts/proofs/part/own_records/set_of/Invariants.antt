use Rattle.std.proofs.Common.{◌≡◌, take}
use Rattle.aud_node.specs.Stream.{Text}
use Rattle.aud_parts.specs.Part.{is_among}
use Rattle.aud_parts.specs.Private.OwnRecords.{has}
use Rattle.aud_parts.proofs.part.own_records.set_of.Given as goal

-- the texts so far are in the set
abbrev pub invariant-loop-text : goal.invariant-loop-text
invariant-loop-text l = (q : Text) → has l.set q ≡ is_among (take l.text-index l.texts) q
