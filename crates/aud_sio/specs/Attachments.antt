-- The count of attachments of a packet (Socket.IO protocol 5, "Packet encoding").
use Rattle.std.specs.Prelude.{ℕ, ◌==◌, ◌&&◌, nat_le, List, drop, slice_index, if◌then◌else◌, Result, Ok}
use Rattle.aud_sio.specs.declared.fault.SioFault.{SioFault}
use Rattle.aud_sio.specs.declared.fault.SioFault.TheVariants.{Attachments}
use Rattle.aud_sio.specs.declared.kind.PacketKind.{PacketKind}
use Rattle.aud_base.specs.Steps.{◌>>=◌, guard}
use Rattle.aud_sio.specs.Kind.{is_binary}
use Rattle.aud_sio.specs.Digits.{digit_count, leading_number, after_digits}

-- one or two digits that write at most 64, then a dash; and the rest
unfoldable pub count_at : List ℕ → Result (ℕ × List ℕ) SioFault
count_at text = do
  digits ← guard Attachments (nat_le 1 (digit_count text) && nat_le (digit_count text) 2)
  dash ← guard Attachments (slice_index (after_digits text) 0 == 45)
  few ← guard Attachments (nat_le (leading_number text) 64)
  Ok (leading_number text, drop 1 (after_digits text))

-- a binary packet has a count, another none
unfoldable pub attachments_at : PacketKind → List ℕ → Result (ℕ × List ℕ) SioFault
attachments_at kind text = if is_binary kind then count_at text else Ok (0, text)
