-- A run in which a session is recovered, and its certificate.
pub mod Run
pub mod Accepted
