use Rattle.std.proofs.Common.{rules, sym, ap, ◌∙◌, subst, arith, ◌≡◌, ◌+◌, ◌-◌, true, [], All}
use Rattle.std.proofs.lemmas.List.Elements.{All-push}
use Rattle.aud_desk.specs.declared.tickets.TicketSeat.{TicketSeat}
use Rattle.aud_desk.specs.Tickets.{seat_view, one_pass_fewer, starts}
use Rattle.aud_desk.specs.Views.{SeatOf, drawn}
use Rattle.aud_desk.proofs.Steps.{splits}
use Rattle.aud_desk.proofs.tickets.Tickets.new.Goals as goal

pub split_seat-next-requires : goal.split_seat-next-requires
split_seat-next-requires c =
    let me = c.loop.invariant.me in
    (c.loop.invariant.here, search rules, splits _ _ _ (ap (λ m. m.0.live) me) (omega (arith, ap (λ m. m.0.passes) me)))

pub loop-preserved : goal.loop-preserved
loop-preserved c =
    let me = c.loop.invariant.me in
    let split = c.split_seat-next.ensures in
    let n = c.args.n in
    let seats = c.args.seats in
    let less : (seats + 1 - c.loop.counter) - 1 ≡ seats + 1 - (c.loop.counter + 1) = omega arith in
    let P : TicketSeat → Type 0 = λ s. SeatOf c.in_ok-table.table.shared.table_id n seats s × (drawn s ≡ []) in
    let new = c.seated.ensures.0 in
    let next : c.seated.result.seat.me.0 ≡ seat_view n seats 1 [] true = ap (λ s. s.me.0) new ∙ ap (λ m. m.0) split.4 ∙ ap (λ m. starts m.0) me in record {
      here = split.0 ∙ c.loop.invariant.here;
      me = split.2 ∙ (λ i. (one_pass_fewer (me i).0, (me i).1)) ∙ ap (λ p. (seat_view n seats p [] true, [])) less;
      len = search rules;
      each = subst (All P) (sym c.in_ok-push.ensures.items)
          (All-push P c.loop.all.items c.seated.result c.loop.invariant.each
          ((ap (λ s. s.table_id) new ∙ split.3 ∙ c.loop.invariant.here, ap (λ v. v.n) next, ap (λ v. v.seats) next), ap (λ v. v.drawn) next));
    }
