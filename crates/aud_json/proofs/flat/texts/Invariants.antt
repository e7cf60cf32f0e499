use Rattle.std.proofs.Common.{◌≤◌, length}
use denote.Shadow.{shadow}
use denote.Text.{Utf8}
use Rattle.json.specs.Lex.{between, fresh, lex, punctuate}
use Rattle.aud_json.proofs.Listed.{Listed}
use Rattle.aud_json.proofs.flat.texts.Given as goal

abbrev pub invariant-items : goal.invariant-items
invariant-items l = Listed (punctuate fresh (lex between l.text)) l.found.items l.rest × shadow (Utf8 l.rest) × (length l.rest ≤ length l.text)

abbrev pub decreases-items : goal.decreases-items
decreases-items l = length l.rest
