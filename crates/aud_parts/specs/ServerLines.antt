-- From which lines of the recording the lines of a part's taps of the stream and of the nodes come.
use Rattle.std.specs.Prelude.{◌≡◌, ℕ, suc, ◌&&◌, not, Bool, false, List, [], ◌∷◌, length, map, slice_get, slice_index, get_or, position, Option, Some}
use Rattle.std.specs.List.{filter}
use Rattle.std.specs.Option.{option_map_or}
use Rattle.std.specs.Str.{bytes_eq}
use Rattle.aud_base.specs.Places.{numbers_from, places_where}
use Rattle.aud_tap.specs.declared.records.StreamRec.{StreamRec}
use Rattle.aud_tap.specs.declared.records.NodeRec.{NodeRec}
use Rattle.aud_tap.specs.declared.taps.Records.{Records}
use Rattle.aud_tap.specs.declared.taps.Records.TheVariants.{Stream, Node, Client}
use Rattle.aud_tap.specs.declared.taps.Tap.{Tap}
use Rattle.aud_reader.specs.OwnLines.{recs_of}
use Rattle.aud_node.specs.Stream.{Text}
use Rattle.aud_input.specs.declared.line_runs.LineRun.{LineRun}
use Rattle.aud_input.specs.LineRuns.{capped, lines_of_runs}
use Rattle.aud_upgrade.specs.declared.joins.Joins.TheVariants.{TakeAndTakes}
use Rattle.aud_upgrade.specs.Upgraded.{takes_next, upgraded_log}
use Rattle.aud_parts.specs.LeftOut.{keeps_record}
use Rattle.aud_parts.specs.Part.{is_among}

-- ---- how many they are

-- the runs have as many lines as the tap: one for its header, and one for each record
abbrev pub HasLinesOf : Tap → List LineRun → Type 0
HasLinesOf tap runs = length (lines_of_runs runs) ≡ length (recs_of tap)

-- ---- the records of a node's log that those of a part come from, by their places in the log

-- the records that name one of the sessions, or nobody
abbrev pub own_records : List Text → List NodeRec → List NodeRec
own_records pids log = filter (keeps_record (is_among pids)) log

-- the record at this place is one of them
abbrev pub keeps_at : List Text → List NodeRec → ℕ → Bool
keeps_at pids log place = option_map_or (keeps_record (is_among pids)) (slice_get log place) false

-- the places of these records
abbrev pub own_places : List Text → List NodeRec → List ℕ
own_places pids log = places_where (keeps_at pids log) (length log)

-- the record with this number isn't joined with the one after it: not both take entries in order
abbrev pub stands : List StreamRec → List NodeRec → ℕ → Bool
stands stream log number = not (takes_next TakeAndTakes stream log number && takes_next TakeAndTakes stream log (suc number))

-- the numbers of the records that are left of the log once takes are joined: of those that are joined the last one, and
-- each other record
abbrev pub standing : List StreamRec → List NodeRec → List ℕ
standing stream log = places_where (stands stream log) (length log)

-- the places in the log of the records that those of the part come from: of the sessions' records those that stand
abbrev pub places_left : List Text → List StreamRec → List NodeRec → List ℕ
places_left pids stream log = map (slice_index (own_places pids log)) (standing stream (own_records pids log))

-- ---- the lines of a tap

-- the places in the whole's tap of the records that those of the part come from: each entry of the stream comes from the
-- one at its place
abbrev pub record_places : List Text → List StreamRec → Records → List ℕ
record_places pids stream (Stream entries) = numbers_from 0 (length entries)
record_places pids stream (Node log) = places_left pids stream log
record_places pids stream (Client recs) = numbers_from 0 (length recs)

-- of these lines of a tap that of its header, the first, and those of the records at these places
abbrev pub lines_at : List LineRun → List ℕ → List ℕ
lines_at runs places = map (slice_index (map capped (lines_of_runs runs))) (0 ∷ map suc places)

-- ---- the lines of a part's tap

-- the part's records are what is left of the whole's for these sessions: as many entries, or the records of a node that
-- name one of them or nobody, with the takes joined that are in order in this stream
abbrev pub AreLeft : List Text → List StreamRec → Records → Records → Type 0
AreLeft pids stream (Stream entries) (Stream left) = length left ≡ length entries
AreLeft pids stream (Node log) (Node left) = left ≡ upgraded_log TakeAndTakes stream (own_records pids log)
AreLeft pids stream _ _ = ⊥

-- the place of the first tap of this name
abbrev pub place_named : Text → List Tap → Option ℕ
place_named name taps = position (λ (tap : Tap). bytes_eq tap.name name) taps

-- where the part's tap is what is left of the whole's of its name, each line of it comes from the line of the whole's tap
-- that has its header or its record
abbrev pub NamesLines : List Tap → List (List LineRun) → Tap → List LineRun → Type 0
NamesLines taps lines part runs =
    (place : ℕ) (whole : Tap) (pids : List Text) (stream : List StreamRec)
    → place_named part.name taps ≡ Some place → slice_get taps place ≡ Some whole → AreLeft pids stream whole.records part.records
    → lines_of_runs runs ≡ lines_at (get_or lines place []) (record_places pids stream whole.records)
