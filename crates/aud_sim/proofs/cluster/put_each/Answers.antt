use Rattle.std.proofs.Common.{◌≡◌, ◌+◌, ◌∙◌, ℕ, List, refl, sym, ap, add-one}
use Rattle.aud_tap.specs.declared.records.Rec.{Rec}
use Rattle.aud_sim.specs.Bundle.{Lines, with_line}
use Rattle.aud_sim.specs.Cluster.{with_each}
use Rattle.aud_sim.specs.Texts.{name_of}
use Rattle.aud_sim.proofs.cluster.put_each.Goals as goal

-- the record in one tap more
each_next : (letter : List ℕ) (of_each : Rec) (count : ℕ) (lines : Lines)
    → with_each letter of_each (count + 1) lines ≡ with_line (name_of letter (count + 1)) of_each (with_each letter of_each count lines)
each_next letter of_each count lines = rw (add-one count) refl

pub loop-index-preserved : goal.loop-index-preserved
loop-index-preserved c =
    c.in_ok-put_in.ensures
    ∙ ap (with_line (name_of c.args.letter.now (c.loop-index.index + 1)) c.args.rec.now) c.loop-index.invariant
    ∙ sym (each_next c.args.letter.now c.args.rec.now c.loop-index.index c.args.bundle.now)
