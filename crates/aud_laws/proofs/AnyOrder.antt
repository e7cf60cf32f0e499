-- Lines in one order and in another.
pub mod Words
pub mod Taps
pub mod Effects
pub mod Swaps
pub mod Fronts
pub mod Neighbours
pub mod Readings
pub mod InputReadings
pub mod OutputReadings
pub mod OneOutput
