-- What contracts of private functions alone cite: what the code keeps, and its steps. No public clause rests on these
-- words.
pub mod AddresseeIndex
pub mod NextPosition
pub mod KnownIndex
pub mod LogsIndex
pub mod LentList
pub mod NodeLogIndex
pub mod CursorIndex
pub mod StreamIndex
pub mod TurnIndex
pub mod OffsetIndex
pub mod NodePids
pub mod TapsOfNodes
