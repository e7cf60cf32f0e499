use Rattle.std.proofs.Common.{◌<◌, length}
use Rattle.sioaudit.proofs.explain.files_of.Given as goal

abbrev pub invariant-loop-name : goal.invariant-loop-name
invariant-loop-name l = 0 < length l.files.items
