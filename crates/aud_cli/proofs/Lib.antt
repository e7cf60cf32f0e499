pub mod Taken
pub mod Steps
pub mod SizeLemmas
