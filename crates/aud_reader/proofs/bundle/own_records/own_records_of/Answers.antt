use Rattle.std.proofs.Common.{List, Bor, subst}
use Rattle.std.proofs.lemmas.Result.{IfOk-weaker}
use Rattle.aud_reader.specs.declared.line.Line.{Line}
use Rattle.aud_reader.specs.Private.OwnRecords.{AreOfLines}
use Rattle.aud_reader.specs.SoFar.{taps_so_far}
use Rattle.aud_reader.proofs.OwnRecordsLemmas.{each_pair}
use Rattle.aud_reader.proofs.bundle.own_records.own_records_of.Goals as goal

pub returns : goal.returns
returns g c =
    IfOk-weaker c.try_map.result _ _ (λ v h.
    each_pair _ _ (λ part records call. subst (λ (p : Bor (List Line)). AreOfLines (taps_so_far c.args.taps.now) p.now records.items) call.shows call.says.met) _ _ h) c.try_map.ensures
