use Rattle.std.proofs.Common.{◌≡◌, map, take}
use Rattle.std.specs.List.{filter}
use Rattle.aud_causes.specs.Candidates.{is_untold, text_of}
use Rattle.aud_causes.proofs.candidates.untold_of.Given as goal

-- those so far
abbrev pub invariant-loop-id : goal.invariant-loop-id
invariant-loop-id l = map text_of l.untold.items ≡ filter (is_untold l.told) (map text_of (take l.id-index l.ids))
