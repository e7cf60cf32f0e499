use Rattle.aud_verdict.proofs.Made.{not_made, accepted, first_found, refused_for}
use Rattle.aud_verdict.proofs.laws.verdict_by_certificate.Goals as goal

pub returns : goal.returns
returns c =
    record {
      not_made = not_made;
      accepted = λ C pid cert got tail turns once made is. accepted C pid cert once made is got tail turns;
      refused = λ C pid cert refusal fault once made. first_found C pid cert once made refusal fault;
      refused_so = λ C pid cert place refusal once made. refused_for C pid cert once made place refusal;
    }
