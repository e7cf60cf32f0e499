-- The text of a made certificate is read back and accepted.
pub mod Pids
pub mod Cursors
pub mod Sound
pub mod TextBack
pub mod Bundles
pub mod Accepted
pub mod AllAccepted
