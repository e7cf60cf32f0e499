-- What a client's log keeps of its connections.
use Rattle.std.specs.Prelude.{◌≡◌, ℕ, List, Bool, Option}
use Rattle.aud_tap.specs.declared.records.ClientRec.{ClientRec}
use Rattle.aud_reader.specs.Connections.{last_begun, connection_is_open}

-- the number and the state of the connection after these records
pub record Connected (records : List ClientRec) (last : Option ℕ) (is_open : Bool) : Type 0 where
  pub number : last ≡ last_begun records
  pub state : is_open ≡ connection_is_open records
