use Rattle.aud_session_facts.proofs.Chains.{no-chain}
use Rattle.aud_session_facts.proofs.misfit_laws.misfit_breaks_the_chain.Goals as goal

pub returns : goal.returns
returns c = no-chain
