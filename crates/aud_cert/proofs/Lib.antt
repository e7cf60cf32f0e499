pub mod Lists
pub mod Named
pub mod Over
pub mod Back
