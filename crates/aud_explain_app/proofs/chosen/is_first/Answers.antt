use Rattle.std.proofs.Common.{arith}
use Rattle.std.proofs.lemmas.Bool.Decides.{nat_tests}
use Rattle.aud_base.specs.Places.{texts_of}
use Rattle.aud_explain_app.proofs.Once.{counted_once}
use Rattle.aud_explain_app.proofs.chosen.is_first.Goals as goal

pub returns-clause-first : goal.returns-clause-first
returns-clause-first c =
    let counted = counted_once (texts_of c.args.seen.now) c.args.pid.now in
    grind (arith, nat_tests)
