use Rattle.std.proofs.Common.{rules, ◌<◌, length, slice_index}
use Rattle.std.proofs.lemmas.Str.{IsCharBoundary-after_ascii}
use Rattle.aud_refusals.proofs.payload.after_type.Goals as goal

pub split_at-requires : goal.split_at-requires
split_at-requires c =
    let there : 0 < length c.args.text.now = search rules in
    let ascii : slice_index c.args.text.now 0 < 128 = search rules in
    IsCharBoundary-after_ascii c.args.text.now 0 c.utf8.text there ascii
