use Rattle.std.proofs.Common.{◌∙◌, Ok, sym, ap, subst}
use Rattle.aud_tap.specs.Names.{AreNamedOnce}
use Rattle.aud_input.specs.Files.{taps_read}
use Rattle.aud_input.specs.Input.{InputSeen}
use Rattle.aud_input.proofs.Files.{record-of}
use Rattle.aud_input.proofs.reading.recording.Goals as goal

pub returns-in-Ok-clause-recorded : goal.returns-in-Ok-clause-recorded
returns-in-Ok-clause-recorded c = λ text read ended.
    record-of text c.args.reader (Ok (record { taps = c.input.inside.taps; lines = c.in-Ok.lines; size = record { lines = c.lines.result; bytes = c.args.bytes }; counts = c.args.counts })) c.requires.going read ended
    (ap taps_read c.in-Ok.ensures.read ∙ ap (λ (i : InputSeen). Ok i.taps) (sym c.input.view_is)) c.in-Ok.ensures.lines c.lines.ensures

pub returns-in-Ok-clause-names : goal.returns-in-Ok-clause-names
returns-in-Ok-clause-names c = subst AreNamedOnce (sym (ap (λ (i : InputSeen). i.taps) c.input.view_is)) c.in-Ok.ensures.names
