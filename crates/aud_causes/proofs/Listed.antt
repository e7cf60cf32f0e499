-- What is told of a fault has names of that fault's list.
pub mod Each
pub mod OfRecording
pub mod OfDifference
pub mod OfFault
pub mod OfRefusal
