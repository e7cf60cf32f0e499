-- What is read of the lines of one tap.
use Rattle.std.specs.Prelude.{◌≡◌, ◌+◌, ◌^◌, ◌<◌, ◌++◌, List, length, map, IfOk}
use Rattle.std.specs.List.{All, flat_map}
use Rattle.aud_reader.specs.declared.line.Line.{Line}
use Rattle.aud_reader.specs.Lines.{line_pieces}
use Rattle.aud_reader.specs.Bundle.{taps_of, taps_to_come}
use Rattle.aud_reader.specs.OwnLines.{HaveTheirOwnLines}
use Rattle.aud_input.specs.LineRuns.{lines_of_runs}
use Rattle.aud_parts.specs.declared.tap_index.tap_reading.HeldRun.{HeldRun}
use Rattle.aud_parts.specs.declared.tap_index.tap_reading.TapRead.{TapRead}
use Rattle.aud_parts.specs.declared.tap_index.tap_reading.TapReading.{TapReading}
use Rattle.aud_parts.specs.TapRuns.{lines_with_bytes}

-- what is read of a tap of these lines is what the reader of the whole input gives of them; and their numbers
pub record IsReadOf (lines : List Line) (tap : TapRead) : Type 0 where
  pub taps : tap.read ≡ taps_of lines
  pub own : IfOk tap.read (HaveTheirOwnLines lines)
  pub numbers : lines_of_runs tap.lines ≡ map (λ (line : Line). line.number) lines

-- the lines of a run that is held
abbrev pub held_lines : HeldRun → List Line
held_lines run = lines_with_bytes run.number (line_pieces run.bytes.items)

-- the runs that are held have these lines, which are counted below 2 to the 64th
pub record HoldsLines (lines : List Line) (held : List HeldRun) : Type 0 where
  pub are : flat_map held_lines held ≡ lines
  pub counted : All (λ (run : HeldRun). run.number + length run.bytes.items < 2 ^ 64) held

-- a reading that has read lines up to these gives what is read of all
pub record IsReading (lines : List Line) (reading : TapReading) (left : List Line) : Type 0 where
  pub taps : taps_to_come reading.reader left ≡ taps_of lines
  pub numbers : lines_of_runs reading.lines ++ map (λ (line : Line). line.number) left ≡ map (λ (line : Line). line.number) lines
