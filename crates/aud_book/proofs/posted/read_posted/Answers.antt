use Rattle.std.proofs.Common.{rules, ◌+◌, ap, sym, ◌∙◌, refl, length, drop}
use Rattle.std.specs.List.{flat_map}
use Rattle.std.proofs.lemmas.Result.{err_from_is_err_and}
use Rattle.aud_reader.specs.Bundle.{taps_to_come}
use Rattle.aud_book.specs.Taps.{seen_taps}
use Rattle.aud_book.specs.PostedLines.{named_lines, numbered}
use Rattle.aud_book.proofs.PostedLines.{next-tap}
use Rattle.aud_book.proofs.posted.read_posted.Goals as goal

pub loop-i-preserved : goal.loop-i-preserved
loop-i-preserved c =
    let taps = c.args.posted.now.taps.items in
    c.in_ok-number.ensures.ok (numbered c.in_ok-number.number (flat_map named_lines (seen_taps (drop (c.loop-i.i + 1) taps))))
    ∙ ap (taps_to_come c.loop-i.reader) (sym (next-tap taps c.loop-i.i c.loop-i.number c.in_ok-number.number c.index.result.now _ (search rules) c.index.ensures c.in_ok-number.ensures.number))
    ∙ c.loop-i.invariant

pub returns-in_err-number-clause-refused : goal.returns-in_err-number-clause-refused
returns-in_err-number-clause-refused c =
    let taps = c.args.posted.now.taps.items in
    let after = c.loop-i.number + length c.index.result.now.lines.items in
    let p = err_from_is_err_and c.from_residual.result c.from_residual.ensures.1 in
    rw (p.1, p.2) (λ ne. sym c.loop-i.invariant
    ∙ ap (taps_to_come c.loop-i.reader) (next-tap taps c.loop-i.i c.loop-i.number after c.index.result.now _ (search rules) c.index.ensures refl)
    ∙ c.in_err-number.ensures.refused ne (numbered after (flat_map named_lines (seen_taps (drop (c.loop-i.i + 1) taps)))))
