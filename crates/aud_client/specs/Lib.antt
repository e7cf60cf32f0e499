pub use Rattle.aud_node.specs.Stream
pub mod TapPackets
pub mod Seen
pub mod Replies
pub mod Stays
pub mod Entries
pub mod StaySeen
pub mod PlacedStays
pub mod StayPlaces
pub mod AreRecordsOf
pub mod Received
pub mod Open
-- what private contracts alone cite
pub mod Private
