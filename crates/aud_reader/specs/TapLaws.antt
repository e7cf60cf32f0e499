-- What the taps of a bundle keep to, as section "Taps" of docs/FORMAT.md has it: one stream at most, and offsets that
-- no two entries share.
use Rattle.std.specs.Prelude.{◌≢◌, ℕ, ◌≤◌, List, [], map}
use Rattle.std.specs.List.{All, AllPairs}
use Rattle.aud_tap.specs.declared.records.TapKind.TheVariants as kind
use Rattle.aud_tap.specs.declared.taps.Records.{Records}
use Rattle.aud_tap.specs.declared.taps.Records.TheVariants.{Stream, Node, Client}
use Rattle.aud_tap.specs.declared.taps.Tap.{Tap}
use Rattle.aud_tap.specs.RecordFields.{offset_of}
use Rattle.aud_reader.specs.Bundle.{taps_on}

-- no two of these texts are the same
abbrev pub AreDifferent : List (List ℕ) → Type 0
AreDifferent texts = AllPairs (λ a b. a ≢ b) texts

-- at most one tap is of the stream
abbrev pub HasOneStreamAtMost : List Tap → Type 0
HasOneStreamAtMost taps = taps_on kind.Stream taps ≤ 1

-- the offsets of the entries in a tap, in their order
abbrev pub offsets_in : Records → List (List ℕ)
offsets_in (Stream entries) = map offset_of entries
offsets_in (Node records) = []
offsets_in (Client records) = []

-- no two entries of the stream have one offset
abbrev pub HasEachOffsetOnce : List Tap → Type 0
HasEachOffsetOnce taps = All (λ t. AreDifferent (offsets_in t.records)) taps
