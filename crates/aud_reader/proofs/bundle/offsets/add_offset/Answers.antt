use Rattle.aud_reader.proofs.TextsLemmas.{texts-put}
use Rattle.aud_reader.proofs.bundle.offsets.add_offset.Goals as goal

pub returns-clause-kept : goal.returns-clause-kept
returns-clause-kept c = λ all has.
    texts-put c.args.offsets.now c.insert.new.self all c.args.off.now (rw (← c.in_ok-share.ensures) c.in_ok-is_new.ensures.updates) has
