use Rattle.std.proofs.Common.{sym}
use Rattle.aud_check.specs.Shown.{turns_of, who_of}
use Rattle.aud_check.specs.Refusals.{IsAccepted}
use Rattle.aud_check.proofs.AcceptedTurns.{all_accepted, are_turns}
use Rattle.aud_check.proofs.Headline.{in_every_run}
use Rattle.aud_verdict.proofs.acceptance.accepted_in_every_run.Goals as goal

pub returns : goal.returns
returns c =
    record {
      turns = λ C cert over (is : IsAccepted C cert). are_turns C cert over (all_accepted C cert.pid cert.turns is.are_turns);
      prefix = λ C cert run over (is : IsAccepted C cert). in_every_run C cert c.due_by_turns.ensures.prefix over is.are_turns is.is_received.is_prefix run;
      all = λ C cert run chain is_run. sym (c.due_by_turns.ensures.all C run (who_of cert) (turns_of C cert) is_run chain);
    }
