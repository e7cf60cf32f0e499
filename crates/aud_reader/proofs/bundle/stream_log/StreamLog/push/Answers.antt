use Rattle.std.proofs.Common.{List, [], ◌∷◌, ◌++◌, length, map, sym, ap, ◌∙◌, Ok}
use Rattle.std.proofs.lemmas.Result.{err_from_is_err_and}
use Rattle.aud_base.specs.Steps.{◌>>=◌}
use Rattle.aud_tap.specs.RecordFields.{offset_of}
use Rattle.aud_tap.specs.declared.records.StreamRec.{StreamRec}
use Rattle.aud_reader.specs.Bundle.{entry_room, with_new_entry}
use Rattle.aud_reader.proofs.KeptLemmas.{fails-then}
use Rattle.aud_reader.proofs.bundle.stream_log.StreamLog.push.Goals as goal

pub returns-in_err-admit : goal.returns-in_err-admit
returns-in_err-admit c =
    let es = c.self.inside.entries in
    let refused = err_from_is_err_and c.from_residual.result c.from_residual.ensures.1 in
    rw (refused.1, refused.2, ← c.self.view_is)
    (fails-then c.in_err-admit.field-0.0 (entry_room (length es) (map offset_of es) c.args.entry) _ c.in_err-admit.ensures.new)

pub returns-in-Ok : goal.returns-in-Ok
returns-in-Ok c =
    let es = c.self.inside.entries in
    let room = c.in_ok-admit.ensures.new in
    ap (λ (xs : List StreamRec). with_new_entry xs c.args.entry) (sym c.self.view_is)
    ∙ ap (λ r. r >>= (λ _. Ok (es ++ c.args.entry ∷ []))) room
    ∙ ap Ok (sym c.in-Ok.ensures.added)
