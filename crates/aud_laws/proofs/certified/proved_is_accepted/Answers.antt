use Rattle.aud_laws.proofs.ReadBack.Accepted.{accepted-again}
use Rattle.aud_laws.proofs.ReadBack.AllAccepted.{all-ok}
use Rattle.aud_laws.proofs.certified.proved_is_accepted.Goals as goal

pub returns : goal.returns
returns c =
    record {
      answer = λ taps pid text got tail turns answer are. accepted-again taps are pid text got tail turns answer;
      all = λ taps pids proofs lines answers bundle are. all-ok taps bundle pids proofs are lines answers;
    }
