pub use Rattle.aud_verdict.specs.Verdicts
pub mod Draws
pub mod Tickets
pub mod Views
pub mod Named
pub mod Workers
pub mod Slots
pub mod Faults
