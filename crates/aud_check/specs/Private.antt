-- What contracts of private functions alone cite: what the code keeps, and its steps. No public clause rests on these
-- words.
pub mod Attachments
pub mod ClientCheck
pub mod Misplaced
pub mod ReceivedCheck
pub mod ShownBounds
pub mod TurnCheck
pub mod TurnEnd
