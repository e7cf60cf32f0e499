use Rattle.aud_laws.proofs.InParts.Alike.{alike}
use Rattle.aud_laws.proofs.parts.part_is_judged_alike.Goals as goal

pub returns : goal.returns
returns c = λ taps pids pid among firsts. alike pids taps c.upgrades_keep_verdicts.ensures pid among firsts
