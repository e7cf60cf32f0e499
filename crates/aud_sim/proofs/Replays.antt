-- A replay, one entry after another.
use Rattle.std.proofs.Common.{◌≡◌, ℕ, suc, ◌+◌, ◌-◌, ◌<◌, List, refl, arith, add-one}
use Rattle.aud_sim.specs.declared.entry.Entry.{Entry}
use Rattle.aud_sim.specs.Delivery.{Sent, sent_to, replayed}

-- where an entry is left, it is the next that is sent
pub replayed_next : (entries : List Entry) (from to : ℕ) (s : Sent) → from < to → replayed entries from (to - from) s ≡ replayed entries (from + 1) (to - (from + 1)) (sent_to entries (from + 1) s)
replayed_next entries from to s h =
    let e : to - from ≡ suc (to - (from + 1)) = omega arith in
    rw (e, add-one from) refl
