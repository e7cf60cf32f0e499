use Rattle.aud_laws.proofs.Recovered.Run.{is_run, chain, both_are_due, first_is_live, second_is_replayed, received_is_front}
use Rattle.aud_laws.proofs.recovery.run_with_recovery.Goals as goal

pub returns : goal.returns
returns c =
    record {
      is_run = is_run;
      is_chain = chain;
      both_are_due = both_are_due;
      first_is_live = first_is_live;
      second_is_replayed = second_is_replayed;
      received_is_front = received_is_front;
    }
