use Rattle.std.proofs.Common.{◌<◌, length}
use Rattle.std.specs.Io.KnownBytes.{Keeps}
use Rattle.aud_input.specs.Sources.{left_in}
use Rattle.aud_input.proofs.sources.SourcesRead.read.Given as goal

abbrev pub invariant-files : goal.invariant-files
invariant-files g l = record {
  kept : Keeps (left_in g.R.Read.remaining l.fn.self) (left_in g.R.Read.remaining l.self);
  room : 0 < length l.buf;
}

abbrev pub decreases-files : goal.decreases-files
decreases-files g l = length l.self.waiting.items
