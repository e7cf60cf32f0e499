use Rattle.std.proofs.Common.{ℕ, Some, ◌<◌, ◌≤◌, drop, length, nat_eq, take}
use Rattle.std.specs.List.{All, count_by}
use Rattle.aud_base.specs.OneForEach.{OneForEach}
use Rattle.aud_tap.specs.declared.taps.Tap.{Tap}
use Rattle.aud_node.specs.Cluster.{node_recs}
use Rattle.aud_parts.specs.Plan.{IsClientIn, StaysWhole, is_part}
use Rattle.aud_parts.proofs.plan.closed.is_sound.Given as goal

-- the parts of the sessions so far are among those that there are
abbrev pub invariant-loop-own : goal.invariant-loop-own
invariant-loop-own l = All (λ own. own < length l.plan.weights.items) (take l.own-index l.own-items)

-- where the clients to come have their parts, all do
abbrev pub invariant-loop-number : goal.invariant-loop-number
invariant-loop-number l =
    OneForEach (IsClientIn l.plan) (drop l.number l.clients) (drop l.number l.plan.clients.items) → OneForEach (IsClientIn l.plan) l.clients l.plan.clients.items

-- so far one part has all sessions of each log
abbrev pub invariant-loop-tap : goal.invariant-loop-tap
invariant-loop-tap l = All (λ (tap : Tap). StaysWhole l.plan (node_recs (Some tap.records))) (take l.tap-index l.taps)

-- the parts so far have room
abbrev pub invariant-loop-part : goal.invariant-loop-part
invariant-loop-part l = record {
  sessions : (k : ℕ) → k < l.part → count_by (λ own. nat_eq own k) l.plan.parts.items ≤ 65536;
  clients : (k : ℕ) → k < l.part → count_by (is_part k) l.plan.clients.items ≤ 4096;
}
