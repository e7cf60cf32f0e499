use Rattle.std.proofs.Common.{◌≡◌, length}
use Rattle.json.specs.Lex.{tokens}
use Rattle.aud_refusals.specs.NoJson.{read_from}
use Rattle.aud_refusals.proofs.no_json.tokens_read.Given as goal

-- those so far are read
abbrev pub invariant-tokens : goal.invariant-tokens
invariant-tokens l = read_from l.count l.reader ≡ read_from 0 (tokens l.text)

-- tokens are taken
abbrev pub decreases-tokens : goal.decreases-tokens
decreases-tokens l = length l.reader
