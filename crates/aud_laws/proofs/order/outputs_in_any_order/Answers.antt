use Rattle.aud_laws.proofs.AnyOrder.OutputReadings.{outputs-alike}
use Rattle.aud_laws.proofs.order.outputs_in_any_order.Goals as goal

pub returns : goal.returns
returns c = outputs-alike
