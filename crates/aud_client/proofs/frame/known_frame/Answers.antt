use Rattle.std.proofs.Common.{Some, None}
use Rattle.aud_client.proofs.KnownLemmas.{known_frame}
use Rattle.aud_client.proofs.frame.known_frame.Goals as goal

pub returns-in-Some : goal.returns-in-Some
returns-in-Some c = known_frame c.args.known.now.event.now c.args.known.now.sent_alone c.args.stream.now (Some c.in-Some.position) c.in-Some.ensures

pub returns-in-None : goal.returns-in-None
returns-in-None c = known_frame c.args.known.now.event.now c.args.known.now.sent_alone c.args.stream.now None c.in-None.ensures
