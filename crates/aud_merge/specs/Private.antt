-- What contracts of private functions alone cite: what the code keeps, and its steps. No public clause rests on these
-- words.
pub mod RunsOn
pub mod SessionsSeen
pub mod Causes
pub mod Waiting
pub mod Asleep
pub mod Left
pub mod Walked
