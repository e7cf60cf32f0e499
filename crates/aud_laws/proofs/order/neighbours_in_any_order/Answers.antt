use Rattle.aud_laws.proofs.AnyOrder.Neighbours.{neighbours}
use Rattle.aud_laws.proofs.order.neighbours_in_any_order.Goals as goal

pub returns : goal.returns
returns c = neighbours
