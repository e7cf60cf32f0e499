-- What a comparison with the due list by turns says of every run.
use Rattle.std.proofs.Common.{ℕ, List, ◌++◌, sym, ap, ◌∙◌}
use Rattle.std.proofs.lemmas.List.{append_assoc}
use Rattle.aud_merge.specs.ByTurns.{IsPrefixOf}

-- a front of what every run begins with is what every run begins with
pub prefix_of_prefix : (xs ys zs : List ℕ) → IsPrefixOf xs ys → IsPrefixOf ys zs → IsPrefixOf xs zs
prefix_of_prefix xs ys zs (r, is) (s, so) = (r ++ s, sym (append_assoc xs r s) ∙ ap (λ l. l ++ s) is ∙ so)
