pub use Rattle.aud_node.specs.Cluster
pub use Rattle.aud_client.specs.Replies
pub use Rattle.aud_rooms.specs.Turns
pub use Rattle.aud_cert.specs.Certificate
pub use Rattle.aud_session_facts.specs.Account
pub use Rattle.aud_session_facts.specs.Marks
pub use Rattle.aud_session_facts.specs.Misfit
pub use Rattle.aud_session_facts.specs.Missed
pub use Rattle.aud_rows.specs.Seen
pub use Rattle.aud_rows.specs.ClientPlaces
pub use Rattle.aud_rows.specs.StayRows
pub use Rattle.aud_rows.specs.EndRows
pub use Rattle.aud_rows.specs.TrueRow
pub use Rattle.aud_session_facts.specs.RowLists
pub use Rattle.aud_session_facts.specs.ShowsDifference
-- what is looked up of all clients at once
pub mod Prepared
-- faults of the recording and of packets
pub mod Order
pub mod ChainRecords
pub mod Unplaced
pub mod ShowsChain
pub mod ShowsOrder
pub mod ShowsNames
pub mod ShowsFrame
pub mod ShowsOrphan
-- faults of the delivery
pub mod RoomChanges
pub mod BesideRows
pub mod ShowsFound
pub mod Received
pub mod Tail
-- the whole outcome
pub mod Also
pub mod Evidence
pub mod ClientShown
-- what happened when
pub mod InOrder
pub mod ShownTurn
pub mod ChainTurns
pub mod MarkedTurns
pub mod Runs
pub mod ClientEvents
pub mod Refused
-- what private contracts alone cite
pub mod Private
