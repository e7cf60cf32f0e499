use Rattle.aud_laws.proofs.ReadBack.Accepted.{made-back}
use Rattle.aud_laws.proofs.certified.made_is_read_back.Goals as goal

pub returns : goal.returns
returns c = λ taps pid cert are. made-back taps are pid cert
