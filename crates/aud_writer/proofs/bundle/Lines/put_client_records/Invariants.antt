use Rattle.std.proofs.Common.{map, take, Ok}
use Rattle.aud_tap.specs.declared.records.Rec.TheVariants as rec
use Rattle.aud_writer.specs.WrittenBundle.{named}
use Rattle.aud_writer.specs.Private.SoFar.{Puts}
use Rattle.aud_writer.proofs.bundle.Lines.put_client_records.Given as goal

abbrev pub invariant-loop-rec : goal.invariant-loop-rec
invariant-loop-rec l = Puts (Ok tt) l.fn.self l.self (named l.name (map rec.Client (take l.rec-index l.records)))
