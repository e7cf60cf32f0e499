use Rattle.std.proofs.Common.{◌≡◌, ◌+◌, ◌<◌, ℕ, false, [], map, take, drop, length}
use Rattle.aud_check.specs.Frames.{frames_in, wrong_window}
use Rattle.aud_check.specs.Difference.{IsAscending}
use Rattle.aud_check.specs.Window.{is_bad_window}
use Rattle.aud_check.proofs.window.first_bad_window.Given as goal

abbrev pub invariant-loop-number : goal.invariant-loop-number
invariant-loop-number l = record {
  counted : length (frames_in (take l.number (map (λ stay. stay.now) l.stays))) + l.left ≡ length l.positions;
  passed : IsAscending l.positions → wrong_window l.stream (take l.number (map (λ stay. stay.now) l.stays)) (drop l.number (map (λ stay. stay.now) l.stays)) ≡ wrong_window l.stream [] (map (λ stay. stay.now) l.stays);
  before : IsAscending l.positions → (earlier : ℕ) → earlier < l.number → is_bad_window l.stream (map (λ stay. stay.now) l.stays) earlier ≡ false;
}
