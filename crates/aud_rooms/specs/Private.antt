-- What contracts of private functions alone cite: what the code keeps, and its steps. No public clause rests on these
-- words.
pub mod Building
pub mod Candidates
pub mod Merge
pub mod RoomMap
pub mod Times
pub mod Walk
