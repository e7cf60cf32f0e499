use Rattle.std.proofs.Common.{option_map, sym, ap, ◌∙◌}
use Rattle.aud_json.specs.View.{view}
use Rattle.aud_client.proofs.Payloads.{reply_by_fields}
use Rattle.aud_client.proofs.replies.reply_in_value.Goals as goal

pub returns : goal.returns
returns c =
    let shows = ap (option_map view) (sym c.in-Some.is) ∙ c.in_ok-fields.ensures in
    rw (c.in_ok-pid.ensures, c.in_ok-sid.ensures) (reply_by_fields (view c.in-Some.fields) _ shows)
