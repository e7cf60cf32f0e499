-- The taps that lines can tell, as section "Taps" of docs/FORMAT.md has them: taps that keep to this are written, and
-- read as themselves.
use Rattle.std.specs.Prelude.{◌≡◌, ◌≤◌, List, ◌∷◌, ◌++◌, length, map, Bool, true, false}
use Rattle.std.specs.List.{All}
use Rattle.std.specs.Set.{distinct_count}
use Rattle.aud_tap.specs.declared.records.Version.{Version}
use Rattle.aud_tap.specs.declared.records.Version.TheVariants.{One}
use Rattle.aud_tap.specs.declared.records.TapKind.TheVariants as kind
use Rattle.aud_tap.specs.declared.records.StreamRec.{StreamRec}
use Rattle.aud_tap.specs.declared.records.NodeRec.{NodeRec}
use Rattle.aud_tap.specs.declared.records.NodeRec.TheVariants.{Takes}
use Rattle.aud_tap.specs.declared.records.ClientRec.{ClientRec}
use Rattle.aud_tap.specs.declared.taps.Records.{Records}
use Rattle.aud_tap.specs.declared.taps.Records.TheVariants.{Stream, Node, Client}
use Rattle.aud_tap.specs.declared.taps.Tap.{Tap}
use Rattle.aud_tap.specs.Forms.{is_text}
use Rattle.aud_tap.specs.RecordFields.{offset_of}
use Rattle.aud_tap.specs.TapName.{is_tap_name}
use Rattle.aud_tap.specs.WellFormed.{stream_is_well_formed, node_is_well_formed}
use Rattle.aud_reader.specs.Bundle.{max_entries, max_records, max_pids, max_node_taps, max_client_taps, taps_on, pids_of}
use Rattle.aud_reader.specs.Connections.{may_follow}
use Rattle.aud_reader.specs.TapLaws.{AreDifferent, HasOneStreamAtMost}

-- a node's tap of this version may have this record: `takes` is of version 2
abbrev pub is_of_version : Version → NodeRec → Bool
is_of_version One (Takes off) = false
is_of_version version rec = true

-- the entries of the stream: not too many, each with an offset of its own
pub record AreEntries (entries : List StreamRec) : Type 0 where
  pub few : length entries ≤ max_entries
  pub offsets : AreDifferent (map offset_of entries)
  pub formed : All (λ entry. stream_is_well_formed entry ≡ true) entries

-- the records of a node's tap of this version
pub record AreNodeRecords (version : Version) (records : List NodeRec) : Type 0 where
  pub few : length records ≤ max_records
  pub kinds : All (λ rec. is_of_version version rec ≡ true) records
  pub formed : All (λ rec. node_is_well_formed rec ≡ true) records

-- the records of a client's tap: each may follow those before it
pub record AreClientRecords (records : List ClientRec) : Type 0 where
  pub few : length records ≤ max_records
  pub follow : (before after : List ClientRec) (rec : ClientRec) → records ≡ before ++ rec ∷ after → may_follow before rec ≡ true

-- the records of a tap of this version
abbrev pub AreRecords : Version → Records → Type 0
AreRecords version (Stream entries) = AreEntries entries
AreRecords version (Node records) = AreNodeRecords version records
AreRecords version (Client records) = AreClientRecords records

-- the taps of a bundle: each with a name of its own, at most one of the stream, and not more of the others, nor more
-- pids, than may be
pub record AreOfABundle (taps : List Tap) : Type 0 where
  pub named : All (λ tap. is_tap_name tap.name ≡ true) taps
  pub names : AreDifferent (map (λ tap. tap.name) taps)
  pub stream : HasOneStreamAtMost taps
  pub nodes : taps_on kind.Node taps ≤ max_node_taps
  pub clients : taps_on kind.Client taps ≤ max_client_taps
  pub pids : distinct_count is_text (pids_of taps) ≤ max_pids
  pub records : All (λ tap. AreRecords tap.version tap.records) taps
