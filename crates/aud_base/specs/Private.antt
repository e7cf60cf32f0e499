-- What invariants and contracts of private functions alone cite. No public clause rests on these words.
pub mod Pages
pub mod Block
pub mod ShortText
