use Rattle.std.proofs.Common.{[], ◌++◌, arith, drop}
use Rattle.std.proofs.lemmas.Grind.{common_steps}
use Rattle.aud_reader.proofs.LinesLemmas.{none_of}
use Rattle.aud_reader.proofs.OwnRecordsLemmas.{none_left, others_left, parts-kept}
use Rattle.aud_reader.proofs.bundle.BundleReader.join.Goals as goal

pub loop-records-preserved : goal.loop-records-preserved
loop-records-preserved c =
    let l = c.loop-records in
    let going = none_of c.join_part.new.self.fault c.in_ok-join_part.ensures.value in
    let left = others_left _ l.number c.args.parts.now _ _ _ c.in-Some.ensures.steps.0 l.invariant.own in
    record {
      going = going;
      own = parts-kept l.self c.join_part.new.self (c.index-parts-number.result.now ++ []) l.invariant.going going (c.in_ok-join_part.ensures.taps [] (λ e. cc)) (λ part. part.now) (λ records. records.items) _ _ left;
      taps = grind (arith, common_steps);
    }

pub returns-clause-taps : goal.returns-clause-taps
returns-clause-taps c = λ more some.
    let l = c.loop-records in
    let left = none_left _ (drop l.number c.args.parts.now) l.records-iterator.rest.items (omega (arith, c.in-None.ensures.steps.0, l.records-iterator.rest.ok.0)) l.invariant.own in
    rw left at (l.invariant.taps more)
