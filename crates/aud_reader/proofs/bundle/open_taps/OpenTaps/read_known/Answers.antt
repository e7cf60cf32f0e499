use Rattle.std.proofs.lemmas.Result.{err_from_is_err_and}
use Rattle.aud_json.specs.View.{view}
use Rattle.aud_reader.specs.Record.{kind_named}
use Rattle.aud_reader.specs.SoFar.{taps_so_far}
use Rattle.aud_reader.proofs.KeptLemmas.{fails-then}
use Rattle.aud_reader.proofs.KnownLines.{known-opens, known-refused}
use Rattle.aud_reader.proofs.ShownRecords.{line-brings}
use Rattle.aud_reader.proofs.bundle.open_taps.OpenTaps.read_known.Goals as goal

pub returns-in_err-d-clause-taps : goal.returns-in_err-d-clause-taps
returns-in_err-d-clause-taps c = λ line is.
    let refused = err_from_is_err_and c.from_residual.result c.from_residual.ensures.1 in
    rw (refused.1, refused.2) (known-refused (taps_so_far c.args.self.now) line c.args.place c.args.text.now is c.in_err-d.field-0.0 c.in_err-d.ensures)

pub returns-in_err-kind-clause-taps : goal.returns-in_err-kind-clause-taps
returns-in_err-kind-clause-taps c = λ line is.
    let ts = taps_so_far c.args.self.now in
    let d = c.in_ok-d.ensures in
    let refused = err_from_is_err_and c.from_residual-in_err-kind.result c.from_residual-in_err-kind.ensures.1 in
    rw (refused.1, refused.2, line-brings line is.name d.0 (view c.in_ok-d.d) (known-opens ts line c.args.place c.args.text.now is d.0 d.1) d.2 ts)
    (fails-then c.in_err-kind.field-0.0 (kind_named (view c.in_ok-d.d)) _ c.in_err-kind.ensures)

pub returns-clause-taps : goal.returns-clause-taps
returns-clause-taps c = λ line is.
    let ts = taps_so_far c.args.self.now in
    let d = c.in_ok-d.ensures in
    rw (line-brings line is.name d.0 (view c.in_ok-d.d) (known-opens ts line c.args.place c.args.text.now is d.0 d.1) d.2 ts, c.in_ok-kind.ensures)
    (c.go_on.ensures.taps is.name is.at)
