-- What is read of one tap of the stream or of a node, and added to what was read before.
use Rattle.std.specs.Prelude.{◌≡◌, ℕ, ◌-◌, List, [], ◌∷◌, ◌++◌, drop, length, map, Option, Some, slice_get}
use Rattle.aud_tap.specs.declared.records.NodeRec.{NodeRec}
use Rattle.aud_tap.specs.declared.records.Rec.TheVariants as rec
use Rattle.aud_tap.specs.declared.records.StreamRec.{StreamRec}
use Rattle.aud_tap.specs.declared.taps.Records.{Records}
use Rattle.aud_tap.specs.declared.taps.Records.TheVariants.{Stream}
use Rattle.aud_tap.specs.declared.taps.Tap.{Tap}
use Rattle.aud_input.specs.declared.line_runs.LineRun.{LineRun}
use Rattle.aud_input.specs.LineRuns.{lines_of_runs}
use Rattle.aud_reader.specs.declared.line.Line.{Line}
use Rattle.aud_reader.specs.OwnLines.{records_for}
use Rattle.aud_parts.specs.declared.servers.Header.{Header}
use Rattle.aud_parts.specs.declared.servers.Reading.{Reading}
use Rattle.aud_parts.specs.declared.tap_index.tap_runs.Run.{Run}
use Rattle.aud_parts.specs.ServersRead.{IsOwnTap, header_for, line_numbers}
use Rattle.aud_parts.specs.TapRuns.{TapRuns, runs_lines}

-- the entries of a stream's records; none of others
abbrev pub stream_recs : Option Records → List StreamRec
stream_recs (Some (Stream entries)) = entries
stream_recs _ = []

-- this is the first line of the tap, and it is the header that says so
pub record IsHeaderOf (files : List (List ℕ)) (runs : TapRuns) (header : Header) : Type 0 where
  pub first : slice_get (runs_lines files runs.runs) 0 ≡ Some header.line
  pub says : header_for runs.name header.line ≡ Some (header.of, header.version)

-- the tap of these runs, which is that of its own lines, was added, with their numbers
pub record AddsServer (files : List (List ℕ)) (runs : TapRuns) (old new : Reading) : Type 0 where
  pub tap : Tap
  pub own : IsOwnTap files runs tap
  pub taps : new.taps.items ≡ old.taps.items ++ tap ∷ []
  pub lines : map lines_of_runs new.lines.items ≡ map lines_of_runs old.lines.items ++ line_numbers files runs ∷ []
  pub kinds : new.kinds.items ≡ old.kinds.items

-- of the lines of a tap these were passed, and those of these runs are left; so many of the next ones are the header
pub record ArePassed (files : List (List ℕ)) (tap : TapRuns) (done : List Line) (left : List Run) (skipped : ℕ) : Type 0 where
  pub whole : done ++ runs_lines files left ≡ runs_lines files tap.runs
  pub skips : skipped ≡ 1 - length done

-- of a node's tap the lines before those of these runs were read: the records of those after the header are the log, and
-- these are their numbers
pub record IsLogRead (files : List (List ℕ)) (tap : TapRuns) (left : List Run) (skipped : ℕ) (log : List NodeRec) (lines : List LineRun) : Type 0 where
  pub done : List Line
  pub passed : ArePassed files tap done left skipped
  pub records : map rec.Node log ≡ records_for tap.name (drop 1 done)
  pub numbers : lines_of_runs lines ≡ map (λ (line : Line). line.number) done
