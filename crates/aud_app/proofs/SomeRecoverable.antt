-- Whether some entry of a stream is recoverable, one entry after the other.
use Rattle.std.proofs.Common.{◌≡◌, ◌<◌, ◌+◌, ◌∙◌, ◌||◌, ℕ, List, [], ◌∷◌, true, length, take, sym, ap, add-one, arith}
use Rattle.std.specs.List.{list_any}
use Rattle.std.proofs.lemmas.List.Folds.{list_any_more, list_any_at}
use Rattle.std.proofs.lemmas.Option.{slice_get-get_or}
use Rattle.aud_tap.specs.declared.records.StreamRec.{StreamRec}
use Rattle.aud_node.specs.Stream.{entry}
use Rattle.aud_node.specs.Recoverable.{is_recoverable}
use Rattle.aud_node.specs.AtPosition.{is_some_recoverable, is_recoverable_at}

-- one entry more, at the next position
pub one_more : (stream : List StreamRec) (i : ℕ) → i < length stream
    → list_any is_recoverable (take (i + 1) stream) ≡ (list_any is_recoverable (take i stream) || is_recoverable_at stream (i + 1))
one_more [] i h = absurd (omega arith)
one_more (e ∷ es) i h =
    list_any_more is_recoverable (e ∷ es) i e h
    ∙ ap (λ o. list_any is_recoverable (take i (e ∷ es)) || is_some_recoverable o)
    (sym (ap (entry (e ∷ es)) (add-one i) ∙ slice_get-get_or (e ∷ es) i e h))

-- one recoverable entry settles it
pub found : (stream : List StreamRec) (i : ℕ) → i < length stream → is_recoverable_at stream (i + 1) ≡ true → list_any is_recoverable stream ≡ true
found [] i h is = absurd (omega arith)
found (e ∷ es) i h is =
    list_any_at is_recoverable (e ∷ es) i e h
    (sym (ap is_some_recoverable (ap (entry (e ∷ es)) (add-one i) ∙ slice_get-get_or (e ∷ es) i e h)) ∙ is)
