-- What is kept of a tap, by tests of its sessions and of whom the entries are for.
use Rattle.std.specs.Prelude.{ℕ, Bool, List, Option, Some, None, if◌then◌else◌}
use Rattle.std.specs.List.{filter, list_any}
use Rattle.std.specs.Option.{option_map}
use Rattle.aud_tap.specs.declared.records.StreamRec.{StreamRec}
use Rattle.aud_tap.specs.declared.taps.Records.{Records}
use Rattle.aud_tap.specs.declared.taps.Records.TheVariants.{Stream, Node, Client}
use Rattle.aud_tap.specs.declared.taps.Tap.{Tap}
use Rattle.aud_node.specs.Stream.{Text}
use Rattle.aud_parts.specs.LeftOut.{keeps_record}
use Rattle.aud_parts.specs.PartTaps.{stays_event, placed_left}
use Rattle.aud_parts.specs.Private.OwnRecords.{names_kept, is_for}

-- the stream's entries in a part with these namespaces, rooms and positions
abbrev pub entries_for : (Text → Bool) → (Text → Bool) → List ℕ → List StreamRec → List StreamRec
entries_for namespaces rooms came stream = placed_left (stays_event (is_for namespaces rooms) came) 1 stream

-- the records that are kept, where these are the stream's entries; none, where the tap isn't kept
abbrev pub records_kept : (Text → Bool) → List StreamRec → Records → Option Records
records_kept keeps entries (Stream recs) = Some (Stream entries)
records_kept keeps entries (Node recs) = if list_any (names_kept keeps) recs then Some (Node (filter (keeps_record keeps) recs)) else None
records_kept keeps entries (Client recs) = None

-- the tap with these records
abbrev pub tap_of : Tap → Records → Tap
tap_of tap records = record { name = tap.name; version = tap.version; records = records }

-- the tap as it is kept; none, where it isn't
abbrev pub tap_kept : (Text → Bool) → List StreamRec → Tap → Option Tap
tap_kept keeps entries tap = option_map (tap_of tap) (records_kept keeps entries tap.records)
