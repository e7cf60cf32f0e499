use Rattle.std.proofs.lemmas.Iterator.{items_from_collect, YieldsList-from_chars}
use Rattle.aud_explanation.proofs.name.chars_of.Goals as goal

pub returns : goal.returns
returns c =
    items_from_collect c.collect.result c.collect.ensures.ran
    (YieldsList-from_chars c.args.name.now c.utf8.name c.chars.ensures.rest)
