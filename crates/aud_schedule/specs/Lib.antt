pub mod Size
pub mod Acts
pub mod Plans
pub mod Bundles
pub mod Private
