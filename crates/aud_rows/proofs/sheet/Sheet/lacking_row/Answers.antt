use Rattle.std.proofs.Common.{sym, ap, ◌∙◌}
use Rattle.std.specs.Option.{option_map}
use Rattle.aud_rows.specs.Private.SaidAt.{said_seen}
use Rattle.aud_rows.proofs.TrueRows.{row_is_true}
use Rattle.aud_rows.proofs.LackingLemmas.{lacking_says_it}
use Rattle.aud_rows.proofs.sheet.Sheet.lacking_row.Goals as goal

pub returns-in-Some-clause-truth : goal.returns-in-Some-clause-truth
returns-in-Some-clause-truth c =
    let said = said_seen c.in-Some.said in
    row_is_true _ _ c.args.tap.now.place said.0 c.args.role said.1 _ c.said_row.ensures
    (lacking_says_it c.args.self.now.recording.now c.args.tap.now.place said (sym c.in_ok-found.ensures ∙ ap (option_map said_seen) c.in-Some.is))
