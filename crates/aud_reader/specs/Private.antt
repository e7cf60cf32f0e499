-- What contracts of private functions alone cite: what the code keeps, and its steps. No public clause rests on these
-- words.
pub mod Connected
pub mod SplitterSteps
pub mod Changes
pub mod Texts
pub mod Offsets
pub mod Kept
pub mod KnownLine
pub mod NewRecord
pub mod Packed
pub mod OwnRecords
pub mod Bounds
