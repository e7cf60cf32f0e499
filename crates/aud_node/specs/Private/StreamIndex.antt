-- What the stream keeps beside its entries.
use Rattle.std.specs.Prelude.{◌≡◌, List, map}
use Rattle.aud_tap.specs.declared.records.StreamRec.{StreamRec}
use Rattle.aud_node.specs.Recoverable.{is_recoverable}
use Rattle.aud_node.specs.Private.OffsetIndex.{HoldsOffsets}
use Rattle.aud_node.specs.Private.AddresseeIndex.{HoldsAddressees}
use Rattle.aud_node.specs.Private.KnownIndex.{HoldsKnown}
use Rattle.aud_node.specs.declared.stream.Texts.{Texts}
use Rattle.aud_node.specs.declared.stream.Stream.TheInside.{Inside}

-- the positions and the known texts are those of the entries
pub record HoldsTexts (stream : List StreamRec) (texts : Texts) : Type 0 where
  pub offsets_are : HoldsOffsets stream texts.offsets
  pub known_are : HoldsKnown stream texts.known

-- the positions, the flags, the addressees and the known texts are those of the entries
pub record HoldsStream (s : Inside) : Type 0 where
  pub offsets_are : HoldsOffsets s.entries s.offsets
  pub flags_are : s.recoverable.items ≡ map is_recoverable s.entries
  pub addressees_are : HoldsAddressees s.entries s.addressees
  pub known_are : HoldsKnown s.entries s.known
