use Rattle.std.proofs.Common.{◌≡◌, ◌∙◌}
use Rattle.serde_json.specs.View.{view}
use Rattle.aud_tap.specs.declared.records.ClientRec.TheVariants.{BytesIn}
use Rattle.aud_writer.specs.Written.{client_data}
use Rattle.aud_wire.proofs.SpellsLemmas.{spells}
use Rattle.aud_wire.proofs.socket.binary_json.Goals as goal

pub returns : goal.returns
returns c =
    let is : view c.in_ok-value.value ≡ client_data (BytesIn c.args.bytes.now) =
    c.in_ok-value.ensures (c.as_str.ensures.value ∙ c.in_ok-text.ensures.text) in
    spells c.to_string.result (view c.in_ok-value.value) (BytesIn c.args.bytes.now) is (c.in_ok-text.ensures.back, tt)
    c.to_string.ensures.text c.to_string.ensures.reads_back
