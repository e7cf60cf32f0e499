use Rattle.aud_cli.specs.declared.choice.Mode.TheVariants.{Audit}
use Rattle.aud_input.specs.Input.{input_of}
use Rattle.aud_app.specs.Output.{layout_of}
use Rattle.aud_laws.proofs.AnyOrder.OneOutput.{one-output}
use Rattle.aud_laws.proofs.order.audit_is_one.Goals as goal

pub returns : goal.returns
returns c = λ whole bytes one other. one-output whole (input_of (layout_of Audit) bytes) one other
