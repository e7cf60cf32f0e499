use Rattle.std.proofs.Common.{◌≡◌, drop}
use Rattle.serde_json.specs.View.{items_view}
use Rattle.aud_cert.specs.Parsed.{parsed_turn, each_item}
use Rattle.aud_cert.proofs.Lists.{with_front}
use Rattle.aud_cert.proofs.parsed.turns.Given as goal

abbrev pub invariant-loop-d : goal.invariant-loop-d
invariant-loop-d l = with_front l.turns.items (each_item parsed_turn (items_view (drop l.d-index l.items))) ≡ each_item parsed_turn (items_view l.items)
