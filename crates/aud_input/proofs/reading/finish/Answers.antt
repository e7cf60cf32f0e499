use Rattle.std.proofs.Common.{subst}
use Rattle.aud_input.specs.Private.Feeding.{IsRefusedOf}
use Rattle.aud_input.specs.declared.reading.ReadingFault.TheVariants.{Refused}
use Rattle.aud_input.proofs.Files.{read-waited}
use Rattle.aud_input.proofs.reading.finish.Goals as goal

pub returns-in-Err-Input-clause-refused : goal.returns-in-Err-Input-clause-refused
returns-in-Err-Input-clause-refused g c = λ text read.
    let is = c.in-Err-Input.field-0-is in
    subst (λ counts. IsRefusedOf text counts (Refused c.in_ok-told-in-Err-Input.told)) c.deref.ensures.value
    (c.in_ok-told-in-Err-Input.ensures.refused text (read-waited text c.args.feeding.reader c.read_waiting.new.self (λ more. c.in-Err-Input.ensures.input more (λ e. cc)) (c.in-Err-Input.ensures.lines (λ e. cc) text) read))
