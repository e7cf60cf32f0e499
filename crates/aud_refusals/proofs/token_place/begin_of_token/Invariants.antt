use Rattle.std.proofs.Common.{◌≡◌, drop}
use Rattle.aud_refusals.specs.NoJson.{begin_of_token}
use Rattle.aud_refusals.specs.declared.token_place.Mode.TheVariants.{Between}
use Rattle.aud_refusals.proofs.token_place.begin_of_token.Given as goal

-- the token is looked for from here on as from the front
abbrev pub invariant-loop-at : goal.invariant-loop-at
invariant-loop-at l = begin_of_token l.mode l.left l.at (drop l.at l.text) ≡ begin_of_token Between l.fn.before 0 l.text
