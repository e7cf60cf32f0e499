-- What contracts of private functions alone cite. No public clause rests on these words.
pub mod Front
pub mod Piece
