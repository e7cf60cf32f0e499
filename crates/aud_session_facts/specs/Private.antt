-- What contracts of private functions alone cite: what the code keeps, and its steps. No public clause rests on these
-- words.
pub mod Last
pub mod Found
pub mod BySpans
pub mod Holding
pub mod Astray
pub mod Unended
pub mod Sessions
