use Rattle.std.proofs.Common.{◌≡◌, drop}
use Rattle.aud_sim.specs.Delivery.{sent_to_guests}
use Rattle.aud_sim.proofs.delivery.deliver_to_all.Given as goal

abbrev pub invariant-loop-guest : goal.invariant-loop-guest
invariant-loop-guest l =
    sent_to_guests l.entries l.position (drop l.guest-index l.guests) (record { lines = l.bundle; clients = l.clients.items })
    ≡ sent_to_guests l.entries l.position l.guests (record { lines = l.initial.bundle; clients = l.initial.clients.items })
