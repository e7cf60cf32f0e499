use Rattle.aud_tap.specs.declared.records.Rec.TheVariants as rec
use Rattle.aud_writer.proofs.bundle.Lines.put_entry.Goals as goal

pub returns : goal.returns
returns c = c.put.ensures (rec.Stream c.args.entry.now) c.in_ok-value.ensures.data c.in_ok-value.ensures.back
