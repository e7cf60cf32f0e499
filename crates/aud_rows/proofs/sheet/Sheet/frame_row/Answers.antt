use Rattle.std.proofs.Common.{sym, ap, ◌∙◌}
use Rattle.std.specs.Option.{option_map}
use Rattle.aud_rows.specs.Private.SaidAt.{said_seen}
use Rattle.aud_rows.proofs.TrueRows.{row_is_true, frame_says_it}
use Rattle.aud_rows.proofs.sheet.Sheet.frame_row.Goals as goal

pub returns-clause-truth : goal.returns-clause-truth
returns-clause-truth c =
    let said = said_seen c.in_ok-said.said in
    row_is_true _ _ c.args.tap.now.place said.0 c.args.role said.1 _ c.said_row.ensures
    (frame_says_it c.args.self.now.recording.now c.args.tap.now.place c.args.stay c.args.frame said (sym c.got.ensures ∙ ap (option_map said_seen) c.in_ok-said.was))
