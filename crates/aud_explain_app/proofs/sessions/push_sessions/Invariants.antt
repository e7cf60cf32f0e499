use Rattle.std.proofs.Common.{ℕ, ◌-◌, List, drop, length, map, string_bytes}
use Rattle.aud_explain_app.specs.declared.summary.causes.CausesTold.{CausesTold}
use Rattle.aud_explain_app.specs.Alike.{telling_of}
use Rattle.aud_explain_app.specs.Texts.{AddTexts}
use Rattle.aud_explain_app.proofs.sessions.push_sessions.Given as goal

-- once those that are not done are written, all are
abbrev pub invariant-loop-done : goal.invariant-loop-done
invariant-loop-done g l =
    (end : List ℕ) (all : List CausesTold)
    → AddTexts l.sheet.recording.now l.sheet.lines.now l.layout.form l.layout.files.now (map telling_of (drop l.done l.sessions)) (string_bytes l.out) end l.causes.items all
    → AddTexts l.sheet.recording.now l.sheet.lines.now l.layout.form l.layout.files.now (map telling_of l.sessions) (string_bytes l.fn.out) end l.fn.causes.items all

abbrev pub decreases-loop-done : goal.decreases-loop-done
decreases-loop-done g l = length l.sessions - l.done
