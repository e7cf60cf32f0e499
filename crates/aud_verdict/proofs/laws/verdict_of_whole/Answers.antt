use Rattle.aud_verdict.proofs.Left.{asked_verdict, none_left}
use Rattle.aud_verdict.proofs.laws.verdict_of_whole.Goals as goal

pub returns : goal.returns
returns c = record { asked = λ C whole pid. asked_verdict C pid whole; yes = none_left }
