use Rattle.std.proofs.Common.{length}
use denote.Shadow.{shadow}
use denote.Text.{Utf8}
use Rattle.json.specs.Lex.{between, fresh, lex, punctuate}
use Rattle.aud_json.proofs.Ordinary.{Begun}
use Rattle.aud_json.proofs.flat.flat_members.Given as goal

abbrev pub invariant-members : goal.invariant-members
invariant-members l = Begun (punctuate fresh (lex between l.initial.rest)) l.found.items l.rest × shadow (Utf8 l.rest)

abbrev pub decreases-members : goal.decreases-members
decreases-members l = length l.rest
