use Rattle.std.proofs.Common.{option_map, sym, ap, ◌∙◌}
use Rattle.aud_json.specs.View.{view}
use Rattle.aud_client.proofs.Payloads.{asked_by_fields}
use Rattle.aud_client.proofs.asked.asked_by_payload.Goals as goal

pub returns-in-Some : goal.returns-in-Some
returns-in-Some c =
    let shows = ap (option_map view) (sym c.in-Some.is) ∙ c.in_ok-fields.ensures in
    rw (sym (asked_by_fields (view c.in-Some.fields) _ shows)) c.asked_by.ensures
