-- The offsets of the stream's entries, while these are read.
use Rattle.std.specs.Prelude.{◌≡◌, ℕ, ◌≤◌, true, List}
use Rattle.std.specs.List.{list_any}
use Rattle.aud_tap.specs.Forms.{is_text}
use Rattle.aud_tap.specs.Rank.{rank}
use Rattle.aud_reader.specs.Private.Texts.{HasTexts}
use Rattle.aud_reader.specs.declared.bundle.offsets.Offsets.{Offsets}
use Rattle.aud_reader.specs.declared.bundle.offsets.Offsets.TheVariants.{Ascending, Any}

-- what is kept of the offsets: that none has a greater rank, or all of them
abbrev pub HoldsOffsets : Offsets → List (List ℕ) → Type 0
HoldsOffsets (Ascending last) all = (text : List ℕ) → list_any (is_text text) all ≡ true → rank text ≤ last
HoldsOffsets (Any set) all = HasTexts set all
