use Rattle.std.proofs.Common.{◌≡◌, ◌∙◌, ◌++◌, ◌∷◌, [], refl, ap, arith, length}
use Rattle.std.proofs.lemmas.Result.{err_from_is_err_and}
use Rattle.aud_reader.specs.declared.line.Line.{Line}
use Rattle.aud_reader.proofs.BoundsLemmas.{lines_at-append, lines_at-push}
use Rattle.aud_reader.proofs.lines.Lines.push.Goals as goal

pub returns-in_err-push-clause-kept : goal.returns-in_err-push-clause-kept
returns-in_err-push-clause-kept c =
    let refused = err_from_is_err_and c.from_residual-in_err-push.result c.from_residual-in_err-push.ensures.1 in
    let old = c.self.inside in
    rw (refused.1, c.in_ok-extend_from_slice.ensures.items, c.in_err-push.ensures.items)
    (lines_at-append old.bytes.items c.line.inside.bytes.now old.bounds.items c.self.invariant ∙ c.self.view_is)

pub returns-clause-pushed : goal.returns-clause-pushed
returns-clause-pushed c =
    let old = c.self.inside in
    let line = c.args.line.now in
    let bytes : c.line.inside.bytes.now ≡ line.bytes = ap (λ (l : Line). l.bytes) c.line.view_is in
    let number : c.line.inside.number ≡ line.number = ap (λ (l : Line). l.number) c.line.view_is in
    let start : c.len-start.result ≡ length old.bytes.items = omega (arith, c.len-start.ensures, old.bytes.ok.0) in
    rw (c.in_ok-extend_from_slice.ensures.items, c.in_ok-push.ensures.items, bytes)
    (lines_at-push old.bytes.items line old.bounds.items _ c.self.invariant number start refl ∙ ap (λ ls. ls ++ line ∷ []) c.self.view_is)
