pub mod ItemsLemmas
pub mod TextsLemmas
pub mod LawLemmas
pub mod KindsTold
mod Feeding
mod Going
mod Records
