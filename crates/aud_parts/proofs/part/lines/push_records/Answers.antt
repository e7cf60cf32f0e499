use Rattle.std.proofs.Common.{◌≡◌, ◌+◌, ◌∙◌, ap, length}
use Rattle.std.proofs.lemmas.Result.{on_ok_weaker}
use Rattle.aud_input.specs.LineRuns.{lines_of_runs}
use Rattle.aud_reader.specs.OwnLines.{recs_in}
use Rattle.aud_parts.proofs.part.lines.push_records.Goals as goal

pub returns-in_default-clause-count : goal.returns-in_default-clause-count
returns-in_default-clause-count c =
    let old = lines_of_runs c.args.runs.now in
    let new = lines_of_runs c.push_next.new.runs in
    on_ok_weaker {P = length new ≡ length old + c.record_count.result} {Q = length new ≡ length old + length (recs_in c.args.part.now)} c.push_next.result
    (λ more. more ∙ ap (λ n. length old + n) c.record_count.ensures)
    c.push_next.ensures.count
