use Rattle.aud_json.specs.View.{view}
use Rattle.aud_reader.specs.SoFar.{taps_so_far}
use Rattle.aud_reader.proofs.KeptLemmas.{place-bound}
use Rattle.aud_reader.proofs.ShownRecords.{line-brings}
use Rattle.aud_reader.proofs.bundle.open_taps.OpenTaps.read_line.Goals as goal

pub returns-clause-taps : goal.returns-clause-taps
returns-clause-taps c =
    let d = c.in_ok-name.ensures.reads in
    rw (line-brings c.args.line.now c.in_ok-name.name.now d.0 (view c.in_ok-name.d) d.1 d.2 (taps_so_far c.args.self.now)) c.read_value.ensures.taps

pub read_known-requires-clause-place : goal.read_known-requires-clause-place
read_known-requires-clause-place c = let is = c.in-Some.ensures in place-bound is.name (taps_so_far c.args.self.now) c.in-Some.place is.at
