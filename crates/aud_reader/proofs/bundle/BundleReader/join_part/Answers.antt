use Rattle.std.proofs.Common.{[], ◌∷◌, arith, drop}
use Rattle.std.proofs.lemmas.Grind.{common_steps}
use Rattle.aud_reader.proofs.LinesLemmas.{none_of}
use Rattle.aud_reader.proofs.OwnRecordsLemmas.{none_left, others_left, lines-kept}
use Rattle.aud_reader.proofs.bundle.BundleReader.join_part.Goals as goal

pub loop-record-preserved : goal.loop-record-preserved
loop-record-preserved c =
    let l = c.loop-record in
    let going = none_of c.parsed_line.new.self.fault c.in_ok-parsed_line.ensures.value in
    let left = others_left _ l.number c.args.lines.now _ _ _ c.in-Some.ensures.steps.0 l.invariant.own in
    record {
      going = going;
      own = lines-kept l.self c.parsed_line.new.self (c.index-lines-number.result ∷ []) l.invariant.going going (c.in_ok-parsed_line.ensures.taps [] (λ e. cc)) _ _ left;
      taps = grind (arith, common_steps);
    }

pub returns-clause-taps : goal.returns-clause-taps
returns-clause-taps c = λ more some.
    let l = c.loop-record in
    let left = none_left _ (drop l.number c.args.lines.now) l.record-iterator.rest.items (omega (arith, c.in-None.ensures.steps.0, l.record-iterator.rest.ok.0)) l.invariant.own in
    rw left at (l.invariant.taps more)
