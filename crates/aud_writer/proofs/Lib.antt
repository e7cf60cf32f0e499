pub mod Lists
pub mod WrittenBack
pub mod JsonText
mod ByNumber
pub mod LineBack
pub mod BundleSoFar
pub mod Newlines
pub mod LinesBack
pub mod LineEffects
pub mod BundleRooms
pub mod TapsBack
