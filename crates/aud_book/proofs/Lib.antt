pub mod Taps
pub mod PostedLines
pub mod NameLemmas
pub mod Alike
