use Rattle.std.proofs.Common.{option_map, option_and_then, ap, sym, ◌∙◌}
use Rattle.serde_json.specs.Find.{as_str}
use Rattle.aud_json.specs.View.{text_view}
use Rattle.aud_sio.proofs.PayloadLemmas.{last_item-view, text_of-view}
use Rattle.aud_sio.proofs.payload.last_text.Goals as goal

pub returns : goal.returns
returns c =
    let last = last_item-view c.args.items.now ∙ sym (ap (option_map text_view) c.in_ok-last.ensures.value) in
    text_of-view c.in_ok-last.field-0.now ∙ ap (option_and_then as_str) (sym last)
