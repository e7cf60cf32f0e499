-- Counts of entries, one more at a time.
use Rattle.std.proofs.Common.{◌≡◌, ◌<◌, ◌+◌, ◌∙◌, ℕ, List, [], ◌∷◌, cond, length, take, count_by, sym, ap, add-one, arith}
use Rattle.std.proofs.lemmas.List.Sums.{sum_by_more}
use Rattle.std.proofs.lemmas.Option.{slice_get-get_or}
use Rattle.aud_tap.specs.declared.records.StreamRec.{StreamRec}
use Rattle.aud_node.specs.Stream.{entry}
use Rattle.aud_node.specs.Recoverable.{is_recoverable}
use Rattle.aud_node.specs.AtPosition.{is_some_recoverable, is_recoverable_at}

-- one entry more counts where the one at the next position is recoverable
pub recoverable-more : (stream : List StreamRec) (i : ℕ) → i < length stream
    → count_by is_recoverable (take (i + 1) stream) ≡ count_by is_recoverable (take i stream) + cond (is_recoverable_at stream (i + 1)) 1 0
recoverable-more [] i h = absurd (omega arith)
recoverable-more (e ∷ es) i h =
    sum_by_more (λ x. cond (is_recoverable x) 1 0) (e ∷ es) i e h
    ∙ ap (λ o. count_by is_recoverable (take i (e ∷ es)) + cond (is_some_recoverable o) 1 0)
    (sym (ap (entry (e ∷ es)) (add-one i) ∙ slice_get-get_or (e ∷ es) i e h))
