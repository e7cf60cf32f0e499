-- Entries that are made `other`, and what that leaves of a session.
pub mod Lists
pub mod Streams
pub mod Cursors
pub mod Rooms
pub mod Due
pub mod Packets
pub mod Clients
pub mod Alike
pub mod Verdicts
pub mod Laws
