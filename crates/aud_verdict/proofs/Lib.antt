pub mod Sessions
pub mod Unrefused
pub mod Made
pub mod Left
pub mod Delivery
