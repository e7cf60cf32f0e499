use Rattle.std.proofs.Common.{◌≡◌, drop}
use Rattle.std.specs.List.{fold}
use Rattle.aud_tap.specs.Rank.{after_byte}
use Rattle.aud_tap.proofs.ranks.rank.Given as goal

abbrev pub invariant-loop-byte : goal.invariant-loop-byte
invariant-loop-byte l = fold after_byte l.numbers (drop l.byte-index l.offset) ≡ fold after_byte (0, 0) l.offset
