pub mod Told
pub mod Alike
pub mod Same
