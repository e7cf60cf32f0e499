use Rattle.std.proofs.Common.{◌∙◌, ap}
use Rattle.aud_parts.specs.IndexSoFar.{Indexed}
use Rattle.aud_parts.proofs.FileRunLemmas.{is-refusal}
use Rattle.aud_parts.proofs.IndexLemmas.{read-whole}
use Rattle.aud_parts.proofs.tap_index.TapIndex.fault.Goals as goal

pub returns : goal.returns
returns c = λ files has counted. ap (λ (x : Indexed). x.fault) (read-whole c.args.self.now files (has counted)).0 ∙ is-refusal files
