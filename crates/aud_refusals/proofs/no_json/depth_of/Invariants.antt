use Rattle.std.proofs.Common.{◌≡◌, length}
use Rattle.aud_refusals.specs.NoJson.{depth_of, deepest}
use Rattle.aud_refusals.proofs.no_json.depth_of.Given as goal

-- of the tokens so far is known how many were open at most
abbrev pub invariant-tokens : goal.invariant-tokens
invariant-tokens l = deepest l.most l.depth l.reader ≡ depth_of l.text

-- tokens are taken
abbrev pub decreases-tokens : goal.decreases-tokens
decreases-tokens l = length l.reader
