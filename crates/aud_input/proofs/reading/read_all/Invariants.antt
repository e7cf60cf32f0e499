use Rattle.std.proofs.Common.{◌≡◌, drop, length, map, take}
use Rattle.aud_base.specs.Watched.{inner_of}
use Rattle.aud_input.specs.Private.Feeding.{AreReadBefore, IsRoom, IsWithin}
use Rattle.aud_input.proofs.reading.read_all.Given as goal

-- the files so far were taken in, and those after them are as they were
abbrev pub invariant-files : goal.invariant-files
invariant-files g l = record {
  within : IsWithin l.feeding;
  room : IsRoom (length l.buffer.items);
  rest : drop l.place l.files ≡ drop l.place l.fn.files;
  read : AreReadBefore (take l.place (map (λ file. g.R.Read.remaining (inner_of file)) l.fn.files)) l.counts.items l.feeding;
}
