use Rattle.std.proofs.Common.{◌+◌, Some, take, drop, sym, ap, ◌∙◌, add-one}
use Rattle.std.proofs.lemmas.List.{take_rest}
use Rattle.aud_parts.proofs.CutLemmas.{cut-nowhere, cut-first}
use Rattle.aud_parts.proofs.cut.cut_at.Goals as goal

pub returns-in_err-i-clause-value : goal.returns-in_err-i-clause-value
returns-in_err-i-clause-value c = rw c.from_residual.ensures (sym (cut-nowhere c.args.byte c.args.text.now c.in_err-i.ensures))

pub returns-clause-value : goal.returns-clause-value
returns-clause-value c =
    let text = c.args.text.now in
    let found = c.in_ok-i.ensures in
    ap (λ rest. Some (take c.in_ok-i.i text, rest)) (take_rest text (c.in_ok-i.i + 1) ∙ ap (λ n. drop n text) (add-one c.in_ok-i.i))
    ∙ sym (cut-first c.args.byte text c.in_ok-i.i found.0.high found.0.before found.1)
