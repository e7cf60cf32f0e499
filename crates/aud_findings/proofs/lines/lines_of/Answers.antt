use Rattle.std.proofs.Common.{◌∙◌, map}
use Rattle.aud_findings.proofs.InRanges.{entry_alone}
use Rattle.aud_findings.proofs.lines.lines_of.Goals as goal

pub returns-in-Entry : goal.returns-in-Entry
returns-in-Entry c =
    let sheet = c.args.sheet.now in
    c.in_ok-lines.ensures
    ∙ entry_alone c.args.by c.in-Entry.is sheet.recording.now sheet.lines.now c.args.tap.now.place c.args.numbers.now (map (λ frame. frame.now) c.args.frames.now) c.args.position
