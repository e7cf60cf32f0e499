pub mod TrueRows
pub mod Stays
pub mod EndsLemmas
pub mod LackingLemmas
