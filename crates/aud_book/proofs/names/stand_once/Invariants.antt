use Rattle.std.proofs.Common.{◌≡◌, drop}
use Rattle.aud_book.specs.History.{texts}
use Rattle.aud_book.specs.Names.{stand_once}
use Rattle.aud_book.proofs.names.stand_once.Given as goal

abbrev pub invariant-loop-i : goal.invariant-loop-i
invariant-loop-i l = stand_once (texts l.names) ≡ stand_once (texts (drop l.i l.names))
