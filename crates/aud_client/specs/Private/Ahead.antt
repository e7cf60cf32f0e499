-- The events that are known of records before they are read.
use Rattle.std.specs.Prelude.{◌≡◌, ◌∷◌, List, Option, Some, IfSome, slice_get}
use Rattle.aud_tap.specs.declared.records.ClientRec.{ClientRec}
use Rattle.aud_tap.specs.declared.records.ClientRec.TheVariants.{TextIn}
use Rattle.aud_tap.specs.declared.records.StreamRec.{StreamRec}
use Rattle.aud_tap.specs.declared.records.StreamRec.TheVariants.{Ev}
use Rattle.aud_node.specs.declared.known.KnownEvent.{KnownEvent}
use Rattle.aud_client.specs.declared.connection.TapPacket.{TapPacket}
use Rattle.aud_client.specs.declared.connection.TapPacket.TheVariants as code

-- the event stands in this stream, with as many entries before it as it says
abbrev pub StandsIn : List StreamRec → KnownEvent → Type 0
StandsIn stream known = slice_get stream known.before ≡ Some (Ev known.event.now)

-- so does that of the packet, if it is a known one
abbrev pub IsFoundIn : List StreamRec → TapPacket → Type 0
IsFoundIn stream (code.Known known) = StandsIn stream known
IsFoundIn stream _ = Unit {0}

-- what is known of a record: the record is a text from the server, an Engine.IO message with the event's text, and the
-- event stands in this stream
pub record CarriesEvent (stream : List StreamRec) (rec : ClientRec) (known : KnownEvent) : Type 0 where
  pub is : rec ≡ TextIn (52 ∷ known.event.now.text)
  pub stands : StandsIn stream known

-- if an event is known of the record, it carries that
abbrev pub Carries : List StreamRec → ClientRec → Option KnownEvent → Type 0
Carries stream rec known = IfSome known (CarriesEvent stream rec)
