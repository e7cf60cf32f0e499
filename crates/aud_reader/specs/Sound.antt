-- What the reader of a bundle keeps true of the taps so far.
use Rattle.std.specs.Prelude.{ℕ, List, map}
use Rattle.aud_tap.specs.declared.taps.Tap.{Tap}
use Rattle.aud_reader.specs.TapLaws.{AreDifferent, HasOneStreamAtMost, HasEachOffsetOnce}

-- the names of the taps, in their order
abbrev pub names_of : List Tap → List (List ℕ)
names_of taps = map (λ t. t.name) taps

-- different names, one stream at most, and each offset once
pub record AreSoundTaps (taps : List Tap) : Type 0 where
  pub names : AreDifferent (names_of taps)
  pub stream : HasOneStreamAtMost taps
  pub offsets : HasEachOffsetOnce taps
