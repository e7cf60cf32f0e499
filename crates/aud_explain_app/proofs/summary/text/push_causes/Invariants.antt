use Rattle.std.proofs.Common.{◌≡◌, ◌++◌, flat_map, map, string_bytes, take}
use Rattle.aud_explain_app.specs.Summary.Causes.{name_of}
use Rattle.aud_explain_app.specs.Summary.Text.{cause_line}
use Rattle.aud_explain_app.proofs.summary.text.push_causes.Given as goal

abbrev pub invariant-loop-name : goal.invariant-loop-name
invariant-loop-name l = string_bytes l.out ≡ string_bytes l.fn.out ++ flat_map (cause_line l.told) (map name_of (take l.name-index l.name-items))
