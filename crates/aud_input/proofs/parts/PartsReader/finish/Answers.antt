use Rattle.std.proofs.Common.{◌∙◌, [], Err, ap, sym}
use Rattle.std.proofs.lemmas.Result.{err_from_is_err_and}
use Rattle.aud_input.proofs.parts.PartsReader.finish.Goals as goal

pub returns-in_err-read_waiting-clause-refused : goal.returns-in_err-read_waiting-clause-refused
returns-in_err-read_waiting-clause-refused g c =
    let refused = err_from_is_err_and c.from_residual.result c.from_residual.ensures.1 in
    let same = refused.1 ∙ ap Err refused.2 in
    rw same (λ other. c.in_err-read_waiting.ensures.refused other [])

pub returns-clause-read : goal.returns-clause-read
returns-clause-read g c = rw (sym (c.in_ok-read_waiting.ensures.parts [])) c.close.ensures.read
