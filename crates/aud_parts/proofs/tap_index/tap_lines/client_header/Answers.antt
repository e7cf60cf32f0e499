use Rattle.std.proofs.Common.{◌≡◌, ◌∷◌, [], ◌++◌, ◌∙◌, List, ℕ, Bool, true, false, Ok, ap, length}
use Rattle.std.specs.Prelude.{nat_le}
use Rattle.aud_base.specs.Steps.{◌>>=◌, guard}
use Rattle.aud_tap.specs.Limits.{max_line}
use Rattle.aud_tap.specs.declared.records.Rec.TheVariants.{Header}
use Rattle.aud_tap.specs.declared.records.TapKind.TheVariants.{Client}
use Rattle.aud_tap.specs.declared.records.Version.TheVariants.{Two}
use Rattle.aud_reader.specs.declared.fault.InputCode.TheVariants.{LineTooLong}
use Rattle.aud_writer.specs.Written.{line_text}
use Rattle.aud_parts.proofs.tap_index.tap_lines.client_header.Goals as goal

-- what is written where it fits is the text itself
written-is : (text line : List ℕ) (fits : Bool) → (guard LineTooLong fits >>= (λ (_ : Unit {0}). Ok text)) ≡ Ok line → line ≡ text
written-is text line true e = cc
written-is text line false e = cc

pub returns : goal.returns
returns c =
    let text = line_text c.args.name.now (Header Client Two) in
    c.in_ok-push.ensures.items
    ∙ ap (λ bytes. bytes ++ 10 ∷ []) (written-is text c.in-Ok.line.items (nat_le (length text) max_line) c.in-Ok.ensures.written)
