use Rattle.std.proofs.Common.{rules, arith}
use Rattle.aud_desk.proofs.Steps.{joins}
use Rattle.aud_desk.proofs.tickets.Tickets.gather_next.Goals as goal

pub join_seat-requires : goal.join_seat-requires
join_seat-requires c = (search rules, search rules, c.args.held.no_slot, omega (arith, c.args.self.now.one_word), joins _ _ _ _ _ c.args.all.now.live)
