-- What contracts of private functions alone cite.
pub mod Fed
