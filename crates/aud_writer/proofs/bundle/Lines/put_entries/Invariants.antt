use Rattle.std.proofs.Common.{map, take, Ok}
use Rattle.aud_tap.specs.declared.records.Rec.TheVariants as rec
use Rattle.aud_writer.specs.WrittenBundle.{named}
use Rattle.aud_writer.specs.Private.SoFar.{Puts}
use Rattle.aud_writer.proofs.bundle.Lines.put_entries.Given as goal

abbrev pub invariant-loop-number : goal.invariant-loop-number
invariant-loop-number l = Puts (Ok tt) l.fn.self l.self (named l.name (map rec.Stream (take l.number l.entries)))
