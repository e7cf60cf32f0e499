use Rattle.std.proofs.Common.{sym, ◌∙◌, arith}
use Rattle.aud_node.proofs.KnownIndexLemmas.{KnownFrom-step, KnownFrom-left_out}
use Rattle.aud_node.proofs.known.KnownTexts.build.Goals as goal

pub loop-i-preserved-then-spells_its_offset : goal.loop-i-preserved-then-spells_its_offset
loop-i-preserved-then-spells_its_offset c =
    KnownFrom-left_out c.args.entries.now c.loop-i.i c.at-entry.result.now c.loop-i.known (omega arith) (omega arith) c.at-entry.ensures.item
    (c.distinct.ensures c.args.entries.now c.requires.offsets c.if-distinct.true)
    (sym c.spells_its_offset.ensures ∙ c.if-spells_its_offset.true)
    c.loop-i.invariant

pub loop-i-preserved : goal.loop-i-preserved
loop-i-preserved c =
    KnownFrom-step c.args.entries.now c.loop-i.i c.at-entry.result.now c.loop-i.known c.note.new.self (omega arith) (omega arith) c.at-entry.ensures.item c.loop-i.invariant (λ text lost. c.in_ok-note.ensures text)
