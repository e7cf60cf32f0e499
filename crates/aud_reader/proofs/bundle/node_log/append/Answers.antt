use Rattle.std.proofs.Common.{◌++◌}
use Rattle.std.specs.List.{filter_map}
use Rattle.aud_tap.specs.RecordFields.{pid_of}
use Rattle.aud_reader.proofs.TextsLemmas.{pids-more}
use Rattle.aud_reader.proofs.bundle.node_log.append.Goals as goal

pub returns-clause-pids : goal.returns-clause-pids
returns-clause-pids c = λ before after has.
    rw c.in_ok-push.ensures.added (pids-more c.admit.new.pids before c.args.records.now c.args.rec after (c.in_ok-admit.ensures.pids (before ++ filter_map pid_of c.args.records.now ++ after) has))
