use Rattle.std.proofs.Common.{◌∷◌, [], codes}
use Rattle.aud_explain_app.proofs.summary.counts.faults_in.Goals as goal

-- each word with its count
pub returns : goal.returns
returns c = λ i.
    (codes "NOLOG", c.count_for.ensures i) ∷ (codes "CHAIN", c.count_for-2.ensures i) ∷ (codes "ORDER", c.count_for-3.ensures i)
    ∷ (codes "CLIENT", c.count_for-4.ensures i) ∷ (codes "NAMES", c.count_for-5.ensures i) ∷ (codes "FRAME", c.count_for-6.ensures i)
    ∷ (codes "ORPHAN", c.count_for-7.ensures i) ∷ (codes "CONTENT", c.count_for-8.ensures i) ∷ (codes "EXTRA", c.count_for-9.ensures i)
    ∷ (codes "DOUBLED", c.count_for-10.ensures i) ∷ (codes "SWAPPED", c.count_for-11.ensures i) ∷ (codes "LOST", c.count_for-12.ensures i)
    ∷ (codes "WINDOW", c.count_for-13.ensures i) ∷ (codes "TAIL", c.count_for-14.ensures i) ∷ []
