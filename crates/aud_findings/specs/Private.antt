-- What contracts of private functions alone cite. No public clause rests on these words.
pub mod Known
pub mod ReadTaps
pub mod Seen
