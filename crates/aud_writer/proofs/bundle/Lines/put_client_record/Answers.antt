use Rattle.aud_tap.specs.declared.records.Rec.TheVariants as rec
use Rattle.aud_writer.proofs.bundle.Lines.put_client_record.Goals as goal

pub returns : goal.returns
returns c = c.put.ensures (rec.Client c.args.rec.now) c.in_ok-value.ensures.data c.in_ok-value.ensures.back
