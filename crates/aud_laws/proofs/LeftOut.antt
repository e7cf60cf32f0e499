-- Records and taps that are left out, and what that leaves of a session.
pub mod Places
pub mod Records
pub mod Cursors
pub mod Orders
pub mod Rooms
pub mod Ends
pub mod Logs
pub mod Turns
pub mod Carried
pub mod Chains
pub mod Clients
pub mod Verdicts
pub mod Laws
