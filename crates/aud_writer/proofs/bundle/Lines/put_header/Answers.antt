use Rattle.aud_tap.specs.declared.records.Rec.TheVariants as rec
use Rattle.aud_writer.proofs.bundle.Lines.put_header.Goals as goal

pub returns : goal.returns
returns c = c.put.ensures (rec.Header c.args.of c.args.version) c.in_ok-value.ensures tt
