use Rattle.aud_json.specs.View.{view}
use Rattle.aud_reader.proofs.ShownRecords.{record-read}
use Rattle.aud_reader.proofs.read.line.parse.Goals as goal

pub returns-clause-reads : goal.returns-clause-reads
returns-clause-reads c =
    let d = c.in_ok-name.ensures.reads in
    record-read c.args.line.now c.in_ok-name.name.now d.0 (view c.in_ok-name.d) d.1 d.2 c.named_record.result c.named_record.ensures.reads
