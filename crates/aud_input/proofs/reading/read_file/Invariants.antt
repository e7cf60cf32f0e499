use Rattle.std.proofs.Common.{◌≡◌, ◌-◌, length}
use Rattle.aud_base.specs.Watched.{inner_of, calls_of, has_failed}
use Rattle.aud_input.specs.Private.Feeding.{IsRoom, IsWithin}
use Rattle.aud_input.proofs.Takes.{IsReadUpTo}
use Rattle.aud_input.proofs.reading.read_file.Given as goal

-- none failed, and what was read was taken in
abbrev pub invariant-pieces : goal.invariant-pieces
invariant-pieces g l = record {
  within : IsWithin l.feeding;
  room : IsRoom (length l.buffer.items);
  failed : has_failed l.file ≡ has_failed l.fn.file;
  calls : calls_of l.fn.file ≡ l.fn.feeding.pieces → calls_of l.file ≡ l.feeding.pieces;
  read : IsReadUpTo (g.R.Read.remaining (inner_of l.fn.file)) (g.R.Read.remaining (inner_of l.file)) l.fn.feeding l.feeding;
}

-- there may be fewer pieces each time
abbrev pub decreases-pieces : goal.decreases-pieces
decreases-pieces g l = 4294967296 - l.feeding.pieces
