use Rattle.std.proofs.Common.{arith}
use Rattle.aud_desk.specs.Draws.{late_count}
use Rattle.std.proofs.Common.{ap}
use Rattle.aud_desk.proofs.Closing.{closes}
use Rattle.aud_desk.proofs.tickets.Tickets.close.Goals as goal

pub returns : goal.returns
returns c =
    let t = c.args.self in
    let all = c.args.all.seat.me.0.drawn in
    let n = ap (λ n. late_count n all) t.key.0 in
    λ i low. closes t.table.shared.key _ _ _ _ c.close_with.ensures.values.2 (omega arith) (omega (arith, n, c.requires.enough)) i (omega arith)
