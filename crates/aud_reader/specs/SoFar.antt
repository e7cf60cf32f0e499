-- The taps of the lines so far, as the reader of a bundle has them.
use Rattle.std.specs.Prelude.{List, map}
use Rattle.aud_tap.specs.declared.taps.Records.{Records}
use Rattle.aud_tap.specs.declared.taps.Records.TheVariants.{Stream, Node, Client}
use Rattle.aud_tap.specs.declared.taps.Tap.{Tap}
use Rattle.aud_reader.specs.declared.bundle.open_tap.OpenLog.{OpenLog}
use Rattle.aud_reader.specs.declared.bundle.open_tap.OpenLog.TheVariants as log
use Rattle.aud_reader.specs.declared.bundle.open_tap.OpenTap.{OpenTap}
use Rattle.aud_reader.specs.declared.bundle.open_taps.OpenTaps.{OpenTaps}

-- the records of a tap so far
abbrev pub records_so_far : OpenLog → Records
records_so_far (log.Stream entries) = Stream entries
records_so_far (log.Node records) = Node records
records_so_far (log.Client records) = Client records

abbrev pub tap_so_far : OpenTap → Tap
tap_so_far t = record { name = t.name; version = t.version; records = records_so_far t.log }

-- the taps so far
abbrev pub taps_so_far : OpenTaps → List Tap
taps_so_far s = map tap_so_far s.taps.items
