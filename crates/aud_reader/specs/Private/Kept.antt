-- What the reader of a bundle keeps beside the records, so that it looks for nothing among them.
use Rattle.std.specs.Prelude.{◌≡◌, ℕ, List, Some, IsTrue}
use Rattle.std.specs.HashMap.{get_by_text}
use Rattle.aud_tap.specs.declared.records.TapKind.TheVariants as kind
use Rattle.aud_tap.specs.declared.taps.Tap.{Tap}
use Rattle.aud_reader.specs.declared.bundle.counts.Counts.{Counts}
use Rattle.aud_reader.specs.declared.bundle.open_taps.OpenTaps.{OpenTaps}
use Rattle.aud_tap.specs.Names.{place_of}
use Rattle.aud_tap.specs.TapName.{is_tap_name}
use Rattle.aud_reader.specs.Bundle.{taps_on, pids_of}
use Rattle.aud_reader.specs.Private.Texts.{HasPids}
use Rattle.aud_reader.specs.SoFar.{taps_so_far}
use Rattle.aud_reader.specs.Sound.{names_of}
use Rattle.aud_reader.specs.TapLaws.{AreDifferent}

-- how many taps of each kind there are
pub record Counted (counts : Counts) (taps : List Tap) : Type 0 where
  pub streams : counts.streams ≡ taps_on kind.Stream taps
  pub nodes : counts.nodes ≡ taps_on kind.Node taps
  pub clients : counts.clients ≡ taps_on kind.Client taps

-- a name that has a place is a tap's name
abbrev pub HaveTapNames : List Tap → Type 0
HaveTapNames taps = (name : List ℕ) (place : ℕ) → place_of taps name ≡ Some place → IsTrue (is_tap_name name)

-- each name has the place of its tap and stands once, and the counts and the pids are those of the taps
pub record KeepsTaps (s : OpenTaps) : Type 0 where
  pub places : (name : List ℕ) → get_by_text s.places name ≡ place_of (taps_so_far s) name
  pub names : AreDifferent (names_of (taps_so_far s))
  pub forms : HaveTapNames (taps_so_far s)
  pub pids : HasPids s.pids (pids_of (taps_so_far s))
  pub counts : Counted s.counts (taps_so_far s)
