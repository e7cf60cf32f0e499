use Rattle.std.proofs.Common.{◌≡◌, ◌+◌, drop, flat_map}
use Rattle.aud_client.specs.TapPackets.{messages_at, numbered_records}
use Rattle.aud_rows.specs.Private.Awaited.{awaited}
use Rattle.aud_rows.proofs.lacking.awaited_after.Given as goal

-- what is to come goes on from what is awaited
abbrev pub invariant-loop-i : goal.invariant-loop-i
invariant-loop-i l =
    awaited l.last (flat_map messages_at (numbered_records (l.begin + l.i) (drop l.i l.connection))) ≡ awaited (0, 0) (flat_map messages_at (numbered_records l.begin l.connection))
