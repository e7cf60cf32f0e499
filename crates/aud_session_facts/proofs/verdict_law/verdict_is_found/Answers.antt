use Rattle.aud_session_facts.proofs.Judged.{verdict_found}
use Rattle.aud_session_facts.proofs.verdict_law.verdict_is_found.Goals as goal

pub returns : goal.returns
returns c = λ cluster whole pid fault account is kind of. verdict_found cluster whole pid fault account is kind of c.received_by_stays.ensures
