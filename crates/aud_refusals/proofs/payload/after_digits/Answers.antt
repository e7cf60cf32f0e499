use Rattle.std.proofs.Common.{rules}
use Rattle.aud_sio.proofs.DigitLemmas.{digits-boundary}
use Rattle.aud_refusals.proofs.payload.after_digits.Goals as goal

pub split_at-requires : goal.split_at-requires
split_at-requires c = digits-boundary c.args.text.now _ c.utf8.text (search rules)
