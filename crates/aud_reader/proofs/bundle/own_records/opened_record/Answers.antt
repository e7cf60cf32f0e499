use Rattle.aud_json.specs.View.{view}
use Rattle.aud_reader.specs.SoFar.{taps_so_far}
use Rattle.aud_reader.proofs.ShownRecords.{own-read}
use Rattle.aud_reader.proofs.bundle.own_records.opened_record.Goals as goal

pub returns : goal.returns
returns c =
    let d = c.in_ok-name.ensures.reads in
    own-read c.args.line.now c.in_ok-name.name.now d.0 (view c.in_ok-name.d) d.1 d.2 (taps_so_far c.args.taps.now) c.placed_record.result c.placed_record.ensures
