use Rattle.std.proofs.Common.{◌≡◌, take}
use Rattle.serde_json.specs.View.{members_view}
use Rattle.aud_explanation.specs.JsonValue.{with_numbers}
use Rattle.aud_explanation.proofs.json_line.value.put_numbers.Given as goal

abbrev pub invariant-loop-name : goal.invariant-loop-name
invariant-loop-name l = members_view l.members.entries ≡ with_numbers (take l.name-index l.numbers) (members_view l.fn.members.entries)
