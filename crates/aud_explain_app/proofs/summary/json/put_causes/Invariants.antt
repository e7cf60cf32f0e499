use Rattle.std.proofs.Common.{◌≡◌, fold, map, take}
use Rattle.serde_json.specs.Data.{no_members}
use Rattle.serde_json.specs.View.{members_view}
use Rattle.aud_explain_app.specs.Summary.Causes.{name_of}
use Rattle.aud_explain_app.specs.Summary.Json.{with_cause}
use Rattle.aud_explain_app.proofs.summary.json.put_causes.Given as goal

abbrev pub invariant-loop-name : goal.invariant-loop-name
invariant-loop-name l = members_view l.causes.entries ≡ fold (with_cause l.told) no_members (map name_of (take l.name-index l.name-items))
