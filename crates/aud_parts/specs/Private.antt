-- What invariants and contracts of private functions alone cite. No public clause rests on these words.
pub mod OwnRecords
pub mod Kept
pub mod Marks
pub mod PartPlaces
pub mod Slots
pub mod IndexSteps
pub mod RunSteps
pub mod ServerSteps
pub mod ClientSteps
pub mod PartSteps
pub mod TapsRead
pub mod FoundRecords
pub mod PlacedTexts
