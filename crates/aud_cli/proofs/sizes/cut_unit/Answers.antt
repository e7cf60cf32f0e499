use Rattle.std.proofs.lemmas.Str.Pattern.{strip_suffix_char}
use Rattle.aud_cli.proofs.SizeLemmas.{unit_cut}
use Rattle.aud_cli.proofs.sizes.cut_unit.Goals as goal

pub returns : goal.returns
returns c =
    unit_cut c.args.unit c.args.text.now c.strip_suffix.result
    (strip_suffix_char c.args.unit c.args.text.now c.strip_suffix.result c.strip_suffix.ensures.cases c.requires)
