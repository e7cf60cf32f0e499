use Rattle.std.proofs.Common.{◌≡◌, take}
use Rattle.serde_json.specs.View.{items_view}
use Rattle.aud_cert.specs.Text.{items, span_data}
use Rattle.aud_cert.proofs.write.span_values.Given as goal

abbrev pub invariant-loop-span : goal.invariant-loop-span
invariant-loop-span l = items_view l.values.items ≡ items span_data (take l.span-index l.spans)
