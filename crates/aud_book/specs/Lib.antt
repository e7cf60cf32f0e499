pub mod History
pub mod Taps
pub mod Refusals
pub mod Names
pub mod Seats
pub mod PostedLines
