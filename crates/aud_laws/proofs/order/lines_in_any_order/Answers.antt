use Rattle.aud_laws.proofs.AnyOrder.Readings.{taps-alike}
use Rattle.aud_laws.proofs.order.lines_in_any_order.Goals as goal

pub returns : goal.returns
returns c = taps-alike
