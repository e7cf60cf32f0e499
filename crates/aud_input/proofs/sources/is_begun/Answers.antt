use Rattle.std.proofs.Common.{sym}
use Rattle.aud_input.proofs.SourcesLemmas.{begun-last}
use Rattle.aud_input.proofs.sources.is_begun.Goals as goal

pub returns : goal.returns
returns c = λ begun. sym (begun-last begun c.args.bytes.now c.requires)
