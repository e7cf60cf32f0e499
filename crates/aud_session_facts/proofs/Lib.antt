mod Noted
pub mod Steps
pub mod HeldLemmas
pub mod MissedLemmas
pub mod Highs
mod Cursors
mod Found
mod Told
mod RoomsHeld
mod DueLemmas
pub mod Ranges
pub mod Chains
pub mod Sweeps
pub mod Ends
pub mod MarkLemmas
mod FramePositions
mod Sessions
pub mod Differences
mod Judged
pub mod NoClient
pub mod Shows
