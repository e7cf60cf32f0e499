use Rattle.std.proofs.Common.{Ok, Err, refl}
use Rattle.std.proofs.lemmas.Result.{err_from_is_err_and}
use Rattle.aud_json.specs.View.{view}
use Rattle.aud_reader.proofs.KnownLines.{known-opens, known-unread}
use Rattle.aud_reader.proofs.ShownRecords.{own-read}
use Rattle.aud_reader.proofs.bundle.own_records.known_record.Goals as goal

pub returns-in_err-d : goal.returns-in_err-d
returns-in_err-d c = λ taps line is.
    let refused = err_from_is_err_and c.from_residual.result c.from_residual.ensures.1 in
    rw (refused.1, refused.2) (known-unread taps line c.args.place c.args.text.now is c.in_err-d.field-0.0 c.in_err-d.ensures)

pub returns-in_err-value_record : goal.returns-in_err-value_record
returns-in_err-value_record c = λ taps line is.
    let d = c.in_ok-d.ensures in
    let refused = err_from_is_err_and c.from_residual-in_err-value_record.result c.from_residual-in_err-value_record.ensures.1 in
    rw (refused.1, refused.2)
    (own-read line is.name d.0 (view c.in_ok-d.d) (known-opens taps line c.args.place c.args.text.now is d.0 d.1) d.2 taps (Err c.in_err-value_record.field-0.0) c.in_err-value_record.ensures.reads)

pub returns : goal.returns
returns c = λ taps line is.
    let d = c.in_ok-d.ensures in
    own-read line is.name d.0 (view c.in_ok-d.d) (known-opens taps line c.args.place c.args.text.now is d.0 d.1) d.2 taps (Ok c.at_place.result) (c.at_place.ensures taps _ is.name (rw (c.in_ok-value_record.ensures.reads, c.in_ok-rec.ensures) refl) is.at)
