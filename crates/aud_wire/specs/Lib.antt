pub use Rattle.aud_tap.specs.TapName
pub use Rattle.aud_reader.specs.Record
pub use Rattle.aud_writer.specs.Written
pub mod Wire
