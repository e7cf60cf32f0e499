-- The places of taps by their names.
pub use Rattle.aud_tap.specs.Names.{place_of, AreNamedOnce}
