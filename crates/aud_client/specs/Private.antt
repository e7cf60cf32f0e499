-- What contracts of private functions alone cite: what the code keeps, and its steps. No public clause rests on these
-- words.
pub mod Kept
pub mod IndexedTranscript
pub mod ClientRead
pub mod ConnectionRead
pub mod Clients
pub mod Told
pub mod Ahead
pub mod Bodies
