pub use Rattle.aud_node.specs.Cluster
pub use Rattle.aud_rooms.specs.Turns
pub use Rattle.aud_input.specs.TapLines
pub use Rattle.aud_client.specs.StayPlaces
pub mod Seen
pub mod NodeSays
pub mod StreamSays
pub mod Marks
pub mod Lacking
pub mod ClientSays
pub mod ClientPlaces
pub mod TrueRow
pub mod Rows
pub mod StayRows
pub mod EndRows
pub mod TurnRows
-- what private contracts alone cite
pub mod Private
