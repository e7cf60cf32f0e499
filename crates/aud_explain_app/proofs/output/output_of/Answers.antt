use Rattle.std.proofs.Common.{◌≡◌, sym, ap, ◌∙◌}
use Rattle.aud_node.specs.Cluster.{cluster_of}
use Rattle.aud_explain_app.specs.Missing.{first_missing, pids_known}
use Rattle.aud_explain_app.proofs.output.output_of.Goals as goal

pub returns-in-Ok-clause-missing : goal.returns-in-Ok-clause-missing
returns-in-Ok-clause-missing g c = λ number is.
    let same : c.deref.result.now ≡ cluster_of c.args.recorded.now.taps = c.deref.ensures ∙ c.new-recording.ensures ∙ c.in_ok-read.ensures in
    ap (λ read. first_missing (pids_known read) c.args.options.now.pids) (sym same) ∙ c.explaining.ensures.missing number is
