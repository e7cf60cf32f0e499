use Rattle.aud_tap.specs.declared.records.Rec.TheVariants as rec
use Rattle.aud_writer.proofs.bundle.Lines.put_node_record.Goals as goal

pub returns : goal.returns
returns c = c.put.ensures (rec.Node c.args.rec.now) c.in_ok-value.ensures tt
