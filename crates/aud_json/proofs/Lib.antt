mod Reading
mod Passing
mod Growing
mod First
mod Lanes
mod Runs
mod Strings
mod Numbers
mod Listed
mod Ordinary
pub mod Shown
