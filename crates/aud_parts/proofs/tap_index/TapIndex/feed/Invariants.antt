use Rattle.std.proofs.Common.{ℕ, List, ◌++◌, length}
use Rattle.aud_parts.specs.IndexSoFar.{HasRead, IsCounted}
use Rattle.aud_parts.specs.Private.IndexSteps.{HasFed}
use Rattle.aud_parts.proofs.tap_index.TapIndex.feed.Given as goal

-- the piece is read up to what is left
abbrev pub invariant-lines : goal.invariant-lines
invariant-lines l =
    (files : List (List ℕ)) (bytes : List ℕ) → HasRead l.fn.self files bytes → IsCounted files (bytes ++ l.piece) → HasFed l.self files bytes l.piece l.left

-- there are fewer bytes each time
abbrev pub decreases-lines : goal.decreases-lines
decreases-lines l = length l.left
