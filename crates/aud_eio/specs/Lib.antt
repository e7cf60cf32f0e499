pub mod Answer
pub mod Packet
pub mod Body
pub mod Private
