use Rattle.aud_sio.proofs.DigitLemmas.{parses}
use Rattle.aud_sio.proofs.digits.number_of.Goals as goal

pub unwrap-requires : goal.unwrap-requires
unwrap-requires c = parses c.args.digits.now c.parse.result c.requires.some c.requires.decimal c.requires.few c.parse.ensures.value.0
