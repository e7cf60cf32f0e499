use Rattle.std.proofs.Common.{◌≡◌, [], None, map, take}
use Rattle.aud_base.specs.FirstTexts.{with_texts}
use Rattle.aud_base.specs.Places.{texts_of}
use Rattle.aud_node.specs.Cluster.{Cluster}
use Rattle.aud_explain_app.specs.Asked.{AreAsked}
use Rattle.aud_explain_app.specs.Chosen.{pids_left_out, sessions_named}
use Rattle.aud_explain_app.specs.Missing.{first_missing}
use Rattle.aud_explain_app.specs.Output.{pids_in}
use Rattle.aud_explain_app.specs.Strangers.{pids_of}
use Rattle.aud_explain_app.proofs.chosen.named.Given as goal

abbrev pub invariant-loop-number : goal.invariant-loop-number
invariant-loop-number l = record {
  seen : texts_of l.seen ≡ with_texts [] (take l.number l.pids);
  named : (c : Cluster) → AreAsked c l.asked → map (λ s. s.now) l.found.shown.items ≡ sessions_named c l.only l.sessions (take l.number l.pids);
  left_out : (c : Cluster) → AreAsked c l.asked → pids_in l.found.left_out.items ≡ pids_left_out c l.only l.sessions (take l.number l.pids);
  none_missing : first_missing (pids_of l.sessions) (take l.number l.pids) ≡ None;
}
