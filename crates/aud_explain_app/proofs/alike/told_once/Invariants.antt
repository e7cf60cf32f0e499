use Rattle.std.proofs.Common.{◌≡◌, flat_map, map}
use Rattle.aud_base.specs.Places.{numbers_from}
use Rattle.aud_explain_app.specs.Alike.{telling_of, told_at}
use Rattle.aud_explain_app.proofs.alike.told_once.Given as goal

abbrev pub invariant-loop-number : goal.invariant-loop-number
invariant-loop-number l = map telling_of l.told.items ≡ flat_map (told_at l.recording (map (λ s. s.now) l.sessions)) (numbers_from 0 l.number)
