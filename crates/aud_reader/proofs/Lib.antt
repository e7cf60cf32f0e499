pub mod LinesLemmas
mod BoundsLemmas
pub mod Fronts
pub mod SessionLemmas
pub mod Lists
pub mod ShownRecords
pub mod TapNames
pub mod ConnectionsLemmas
pub mod TextsLemmas
pub mod OffsetsLemmas
pub mod KeptLemmas
pub mod LineSteps
pub mod KnownLines
pub mod OwnLines
pub mod TapLaws
pub mod NewRecords
pub mod OwnRecordsLemmas
