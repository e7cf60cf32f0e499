use Rattle.std.proofs.Common.{◌∙◌, ap}
use Rattle.aud_input.specs.LineName.{name_of}
use Rattle.aud_input.proofs.NameLemmas.{name_of-front}
use Rattle.aud_input.proofs.name.name_of.Goals as goal

pub returns-clause-value : goal.returns-clause-value
returns-clause-value c = c.name_in.ensures.value ∙ ap name_of c.first_bytes.ensures ∙ name_of-front c.args.line.now
