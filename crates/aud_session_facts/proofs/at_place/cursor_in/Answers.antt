use Rattle.std.proofs.Common.{arith}
use Rattle.std.proofs.lemmas.Grind.{common_steps}
use Rattle.aud_session_facts.proofs.Cursors.{cursor_there}
use Rattle.aud_session_facts.proofs.at_place.cursor_in.Goals as goal

pub returns : goal.returns
returns c = grind (arith, common_steps, c.unwrap_or.ensures, c.cursor_after.ensures, c.min-count.ensures, c.len.ensures, c.recs.ensures, cursor_there c.args.log.now.stream c.args.log.now.recs c.args.count c.min-count.result)
