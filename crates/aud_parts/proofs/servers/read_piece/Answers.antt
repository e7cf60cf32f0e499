use Rattle.std.proofs.Common.{◌∷◌, ap, sym, ◌∙◌}
use Rattle.std.proofs.lemmas.List.{drop_all}
use Rattle.aud_reader.specs.Bundle.{taps_to_come}
use Rattle.aud_parts.proofs.servers.read_piece.Goals as goal

pub returns : goal.returns
returns c =
    c.finish.ensures.own_lines (c.args.header.now ∷ c.args.lines.now)
    (ap (taps_to_come c.loop-line.reader) (sym (drop_all c.loop-line.line-index c.args.lines.now c.loop-line-test.false)) ∙ c.loop-line.invariant)
