use Rattle.std.proofs.Common.{ap, ◌∙◌}
use Rattle.aud_sio.specs.Payload.{last_of_value}
use Rattle.aud_sio.proofs.PayloadLemmas.{last_of_payload-read}
use Rattle.aud_sio.proofs.payload.last_of_payload.Goals as goal

pub returns-in_ok-last_of_value-in-Ok : goal.returns-in_ok-last_of_value-in-Ok
returns-in_ok-last_of_value-in-Ok c =
    let value = c.in-Ok.ensures.shows in
    let last = last_of_payload-read c.args.kind c.args.text.now value.0 value.1 ∙ ap (last_of_value c.args.kind) value.2 ∙ c.in_ok-last_of_value-in-Ok.ensures in
    rw last c.owned.ensures
