use Rattle.std.proofs.Common.{◌≡◌, ◌++◌, List, map}
use Rattle.aud_client.specs.Seen.{placed_seen}
use Rattle.aud_client.specs.StaySeen.{StaySeen}
use Rattle.aud_client.specs.PlacedStays.{PlacedPacket}
use Rattle.aud_client.specs.StayPlaces.{PlacesSeen}
use Rattle.aud_client.specs.Private.Kept.{Keeps}
use Rattle.aud_client.proofs.stays.Stays.packets.Given as goal

abbrev pub invariant-loop-placed : goal.invariant-loop-placed
invariant-loop-placed l = record {
  packets_are : l.yielded ++ l.placed-iterator.rest.items ≡ l.fn.packets.items;
  keeps : (done : List StaySeen) (told : List PlacesSeen) (before : List PlacedPacket) → Keeps l.stream l.c l.fn.self done told before → Keeps l.stream l.c l.self done told (before ++ map placed_seen l.yielded);
}
