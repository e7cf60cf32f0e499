-- What is written for what was read of an input.
use Rattle.std.proofs.Common.{◌≡◌, ℕ, Bool, List, Option, Result, Ok, Err, sym, subst}
use Rattle.aud_reader.specs.declared.fault.ReadFault.{ReadFault}
use Rattle.aud_reader.specs.declared.fault.ReadFault.TheVariants.{Input, Memory}
use Rattle.aud_cli.specs.declared.choice.Mode.{Mode}
use Rattle.aud_input.specs.Input.{InputSeen, IsInputOf}
use Rattle.aud_verdict.specs.Output.{OutputSeen}
use Rattle.aud_app.specs.Output.{IsOutputOver, IsOutputOf, layout_of}

-- the output over what was read is that of the bytes
pub output_read : (mode : Mode) (whole : Bool) (left : Option (List ℕ)) (read : Result InputSeen ReadFault) (output : OutputSeen) → (¬ (read ≡ Err Memory) → IsInputOf (layout_of mode) left read)
    → IsOutputOver mode whole read output → IsOutputOf mode whole left output
output_read mode whole left (Ok input) output known is =
    let of = known (λ e. cc) in (of.0, of.1, subst (λ r. IsOutputOver mode whole r output) (sym of.2) is)
output_read mode whole left (Err (Input n code)) output known is =
    let of = known (λ e. cc) in (of.0, of.1, subst (λ r. IsOutputOver mode whole r output) (sym of.2) is)
output_read mode whole left (Err Memory) output known is = absurd is
