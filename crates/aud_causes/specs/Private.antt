-- What contracts of private functions alone cite.
pub mod Noting
