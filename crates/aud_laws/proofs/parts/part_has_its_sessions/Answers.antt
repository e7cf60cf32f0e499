use Rattle.aud_laws.proofs.InParts.Mentions.{own-sessions}
use Rattle.aud_laws.proofs.parts.part_has_its_sessions.Goals as goal

pub returns : goal.returns
returns c = λ taps pids clients. own-sessions pids taps c.upgrades_keep_verdicts.ensures clients
