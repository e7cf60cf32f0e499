pub mod Lists
pub mod Steps
pub mod Closing
pub mod Drawn
pub mod Filled
pub mod Reports
