use Rattle.serde_json.specs.View.{view}
use Rattle.aud_tap.specs.declared.records.ClientRec.TheVariants.{TextIn}
use Rattle.aud_wire.proofs.SpellsLemmas.{spells}
use Rattle.aud_wire.proofs.socket.text_json.Goals as goal

pub returns : goal.returns
returns c =
    spells c.to_string.result (view c.in_ok-value.value) (TextIn c.args.text.now) c.in_ok-value.ensures tt
    c.to_string.ensures.text c.to_string.ensures.reads_back
