use Rattle.aud_laws.proofs.AnyOrder.InputReadings.{inputs-alike}
use Rattle.aud_laws.proofs.order.inputs_in_any_order.Goals as goal

pub returns : goal.returns
returns c = inputs-alike
