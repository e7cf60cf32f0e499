-- The acknowledgement id of a packet (Socket.IO protocol 5, "Packet encoding").
use Rattle.std.specs.Prelude.{ℕ, ◌==◌, nat_le, List, if◌then◌else◌, Option, Some, None, Result, Ok}
use Rattle.aud_sio.specs.declared.fault.SioFault.{SioFault}
use Rattle.aud_sio.specs.declared.fault.SioFault.TheVariants.{AckId}
use Rattle.aud_base.specs.Steps.{◌>>=◌, guard}
use Rattle.aud_sio.specs.Digits.{digit_count, leading_number, after_digits}

-- all the digits at the front are the id, at most 18 of them; and the rest
unfoldable pub ack_id_at : List ℕ → Result (Option ℕ × List ℕ) SioFault
ack_id_at text = do
  few ← guard AckId (nat_le (digit_count text) 18)
  Ok (if digit_count text == 0 then None else Some (leading_number text), after_digits text)
