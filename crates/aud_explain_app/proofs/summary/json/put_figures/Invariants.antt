use Rattle.std.proofs.Common.{◌≡◌, take}
use Rattle.serde_json.specs.View.{members_view}
use Rattle.aud_explain_app.specs.Summary.Json.{with_figures}
use Rattle.aud_explain_app.proofs.summary.json.put_figures.Given as goal

abbrev pub invariant-loop-name : goal.invariant-loop-name
invariant-loop-name l = members_view l.map.entries ≡ with_figures (take l.name-index l.figures) (members_view l.fn.map.entries)
