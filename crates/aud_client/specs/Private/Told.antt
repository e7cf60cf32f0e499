-- What was read of a connection, and taken into the stays.
use Rattle.std.specs.Prelude.{◌≡◌, ℕ, List, []}
use Rattle.aud_tap.specs.declared.records.StreamRec.{StreamRec}
use Rattle.aud_tap.specs.declared.records.ClientRec.{ClientRec}
use Rattle.aud_client.specs.StaySeen.{StaySeen}
use Rattle.aud_client.specs.PlacedStays.{PlacedPacket}
use Rattle.aud_client.specs.StayPlaces.{PlacesSeen}
use Rattle.aud_client.specs.declared.connection.Reader.{Reader}
use Rattle.aud_client.specs.declared.stays.Stays.{Stays}
use Rattle.aud_client.specs.Private.ConnectionRead.{HasGiven, packets_read}
use Rattle.aud_client.specs.Private.Kept.{Keeps}

-- so many records of the connection were read, the first of which has this number, and their packets went into the
-- stays, which come after those of earlier connections
pub record HasKept (stream : List StreamRec) (c first : ℕ) (done : List StaySeen) (told : List PlacesSeen) (recs : List ClientRec) (reader : Reader) (st : Stays) : Type 0 where
  pub packets : List PlacedPacket
  pub given : HasGiven first recs packets reader
  pub held : packets_read reader ≡ []
  pub keeps : Keeps stream c st done told packets
