-- Taps that were read or upgraded keep to what a bundle's taps keep to.
pub mod Formed
pub mod Versions
pub mod Follows
pub mod Counts
pub mod Records
pub mod ReadTaps
pub mod UpgradedLogs
pub mod UpgradedTaps
