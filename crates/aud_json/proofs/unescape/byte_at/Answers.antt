use Rattle.std.proofs.Common.{◌≡◌, ◌+◌, get_or, Some, arith}
use Rattle.json.specs.Text.{short_escape}
use Rattle.aud_json.proofs.Strings.{step_escape, step_plain}
use Rattle.aud_json.proofs.unescape.byte_at.Goals as goal

pub returns-then-byte-eq92-clause-read : goal.returns-then-byte-eq92-clause-read
returns-then-byte-eq92-clause-read c =
    let bytes = c.args.bytes.now in
    let escaped : short_escape (get_or bytes (c.args.at + 1) 0) ≡ Some c.in_ok-short.field-0 = grind arith in
    step_escape bytes c.args.at c.in_ok-short.field-0 (omega arith) (grind arith) escaped c.in_ok-short.ensures.ascii.1 c.in_ok-short.ensures.ascii.0

pub returns-clause-read : goal.returns-clause-read
returns-clause-read c =
    let bytes = c.args.bytes.now in
    step_plain bytes c.args.at c.requires.within c.requires.inside (λ e. grind arith) (grind arith)
