use Rattle.std.proofs.Common.{refl}
use Rattle.aud_parts.proofs.ListingLemmas.{not_utf8-not_id}
use Rattle.aud_parts.proofs.cut.pid_in.Goals as goal

pub returns-in_default : goal.returns-in_default
returns-in_default c = rw (not_utf8-not_id c.args.bytes.now c.in_default.ensures.cases.0) refl
