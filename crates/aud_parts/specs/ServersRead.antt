-- What is read of the taps of the stream and of the nodes: of each its own lines.
use Rattle.std.specs.Prelude.{◌≡◌, ℕ, Bool, true, false, List, filter, map, Option, Some, None, slice_get}
use Rattle.std.specs.Option.{option_and_then, option_map}
use Rattle.aud_base.specs.OneForEach.{OneForEach}
use Rattle.aud_tap.specs.declared.records.Rec.{Rec}
use Rattle.aud_tap.specs.declared.records.Rec.TheVariants.{Header}
use Rattle.aud_tap.specs.declared.records.TapKind.{TapKind}
use Rattle.aud_tap.specs.declared.records.TapKind.TheVariants.{Stream, Node}
use Rattle.aud_tap.specs.declared.records.Version.{Version}
use Rattle.aud_tap.specs.declared.taps.Tap.{Tap}
use Rattle.aud_input.specs.declared.line_runs.LineRun.{LineRun}
use Rattle.aud_input.specs.LineRuns.{lines_of_runs}
use Rattle.aud_reader.specs.declared.line.Line.{Line}
use Rattle.aud_reader.specs.OwnLines.{record_for, records_for, recs_of}
use Rattle.aud_parts.specs.TapRuns.{TapRuns, runs_lines}

-- ---- what a tap was put on

-- the tap was put on the stream or on a node
abbrev pub is_server : Option TapKind → Bool
is_server (Some Stream) = true
is_server (Some Node) = true
is_server _ = false

-- what a header says: what its tap was put on, and its version
abbrev pub header_in : Rec → Option (TapKind × Version)
header_in (Header of v) = Some (of, v)
header_in _ = None

-- what the line says, where it is a header of the tap of this name
abbrev pub header_for : List ℕ → Line → Option (TapKind × Version)
header_for name line = option_and_then header_in (record_for name line)

-- what the tap was put on, by the first of its lines; none where that is no header
abbrev pub kind_told : List (List ℕ) → TapRuns → Option TapKind
kind_told files tap = option_map (λ header. header.0) (option_and_then (header_for tap.name) (slice_get (runs_lines files tap.runs) 0))

-- ---- its records

-- the numbers of the tap's lines
abbrev pub line_numbers : List (List ℕ) → TapRuns → List ℕ
line_numbers files tap = map (λ (line : Line). line.number) (runs_lines files tap.runs)

-- the tap has the name of these runs, and its header and its records are those of its own lines, in their order
pub record IsOwnTap (files : List (List ℕ)) (runs : TapRuns) (tap : Tap) : Type 0 where
  pub name_is : tap.name ≡ runs.name
  pub records : recs_of tap ≡ records_for runs.name (runs_lines files runs.runs)

-- those of the taps that were put on the stream or on a node
abbrev pub servers_among : List (List ℕ) → List TapRuns → List TapRuns
servers_among files taps = filter (λ tap. is_server (kind_told files tap)) taps

-- what each of these taps was put on; and of those of the stream and of the nodes the taps, in the same order, with the
-- numbers of their lines
pub record AreServers (files : List (List ℕ)) (taps : List TapRuns) (kinds : List (Option TapKind)) (servers : List Tap) (lines : List (List LineRun)) : Type 0 where
  pub kinds_are : kinds ≡ map (kind_told files) taps
  pub taps_are : OneForEach (IsOwnTap files) (servers_among files taps) servers
  pub lines_are : map lines_of_runs lines ≡ map (line_numbers files) (servers_among files taps)
