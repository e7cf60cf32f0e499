use Rattle.std.proofs.Common.{◌≡◌, ◌+◌, ◌-◌, ◌≤◌, length, drop}
use Rattle.std.specs.List.{prefix_len}
use Rattle.std.specs.Char.{is_ascii_digit}
use Rattle.aud_json.proofs.flat.digits.Given as goal

abbrev pub invariant-digits : goal.invariant-digits
invariant-digits l = (prefix_len is_ascii_digit l.bytes ≡ l.i + prefix_len is_ascii_digit (drop l.i l.bytes)) × (l.i ≤ length l.bytes)

abbrev pub decreases-digits : goal.decreases-digits
decreases-digits l = length l.bytes - l.i
