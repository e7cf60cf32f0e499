pub mod Shown
pub mod View
pub mod Private
