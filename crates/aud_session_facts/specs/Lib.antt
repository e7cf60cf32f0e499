pub use Rattle.aud_node.specs.Stream
pub use Rattle.aud_node.specs.Cluster
pub use Rattle.aud_node.specs.TurnRecords
pub use Rattle.aud_client.specs.Received
pub use Rattle.aud_rooms.specs.Turns
pub use Rattle.aud_rooms.specs.TurnsDue
pub use Rattle.aud_rooms.specs.Spans
pub use Rattle.aud_merge.specs.ByTurns
pub use Rattle.aud_maker.specs.Made
pub use Rattle.aud_maker.specs.Faults
pub use Rattle.aud_maker.specs.Chain
pub use Rattle.aud_check.specs.Difference
pub use Rattle.aud_verdict.specs.Session
pub use Rattle.aud_rows.specs.Seen
pub use Rattle.aud_rows.specs.ClientPlaces
pub use Rattle.aud_rows.specs.StayRows
pub use Rattle.aud_rows.specs.TrueRow
-- what was received, what was due, and what was found
pub mod Account
-- recoveries
pub mod Recoveries
pub mod Opened
pub mod Opening
pub mod Missed
pub mod Held
-- where a position was reached, and why an entry was due or not
pub mod Reach
pub mod Changes
pub mod Reasons
pub mod NotDue
-- which turn a stay is of, and which turn was behind
pub mod StayTurns
pub mod Ahead
-- the chain of turns
pub mod Places
pub mod Marks
pub mod Misfit
-- the rows that show a fault
pub mod FramePlaces
pub mod RowLists
pub mod SessionRows
pub mod DifferenceRows
pub mod ShowsDifference
pub mod ContentRows
pub mod ShowsAltered
pub mod WindowRows
pub mod ShowsWindow
pub mod NodeRows
-- what private contracts alone cite
pub mod Private
