use Rattle.aud_merge.proofs.DueLaws.{due-chain, due-shown, due-front}
use Rattle.aud_merge.proofs.laws.due_by_turns.Goals as goal

pub returns : goal.returns
returns c = record { all = due-chain; shown = due-shown; prefix = due-front }
