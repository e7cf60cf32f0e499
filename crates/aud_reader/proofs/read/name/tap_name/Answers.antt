use Rattle.std.proofs.Common.{refl}
use Rattle.aud_reader.proofs.TapNames.{not_utf8-not_name}
use Rattle.aud_reader.proofs.read.name.tap_name.Goals as goal

pub returns-in_default-clause-value : goal.returns-in_default-clause-value
returns-in_default-clause-value c = rw (not_utf8-not_name c.args.name.now c.in_default.ensures.cases.0) refl
