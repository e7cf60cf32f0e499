use Rattle.aud_reader.proofs.LinesLemmas.{none_before, none_within, cut_at}
use Rattle.aud_reader.proofs.line.next_line.Goals as goal

pub returns-in_err-i-clause-none : goal.returns-in_err-i-clause-none
returns-in_err-i-clause-none c = rw c.from_residual.ensures (none_within c.args.text.now c.in_err-i.ensures)

pub returns-clause-found : goal.returns-clause-found
returns-clause-found c =
    let found = c.in_ok-i.ensures in (
      cut_at c.args.text.now c.in_ok-i.i found.0.high found.1,
      none_before c.args.text.now c.in_ok-i.i found.0.before,
    )
