use Rattle.std.proofs.Common.{◌≡◌, filter_map, take}
use Rattle.aud_parts.specs.Private.Kept.{entries_for, tap_kept}
use Rattle.aud_parts.specs.Private.OwnRecords.{has}
use Rattle.aud_parts.proofs.part.kept_taps.Given as goal

-- what is left of the taps so far
abbrev pub invariant-loop-tap : goal.invariant-loop-tap
invariant-loop-tap l =
    l.left.items ≡ filter_map (tap_kept (has l.own) (entries_for (has l.audience.namespaces) (has l.audience.rooms) l.came l.stream)) (take l.tap-index l.taps)
