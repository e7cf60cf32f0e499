-- What is written of a part so far.
use Rattle.std.specs.Prelude.{◌≡◌, ℕ, List, ◌∷◌, ◌++◌, drop, flat_map, map, Option}
use Rattle.std.specs.Io.KnownBytes.{Appends}
use Rattle.aud_tap.specs.declared.records.Rec.TheVariants.{Header}
use Rattle.aud_tap.specs.declared.records.TapKind.TheVariants.{Client}
use Rattle.aud_tap.specs.declared.records.Version.TheVariants.{Two}
use Rattle.aud_reader.specs.declared.line.Line.{Line}
use Rattle.aud_writer.specs.Written.{line_text}
use Rattle.aud_parts.specs.declared.tap_index.tap_runs.Run.{Run}
use Rattle.aud_parts.specs.TapRuns.{TapRuns, ended}
use Rattle.aud_parts.specs.PartLines.{PartOfTap, numbers_of_parts, text_of_parts}
use Rattle.aud_parts.specs.Private.ServerSteps.{ArePassed}

-- of a client's tap the lines before those of these runs were written, its header anew, and their numbers added
pub record IsClientWritten (files : List (List ℕ)) (tap : TapRuns) (old new : Option (List ℕ)) (before after : List ℕ) (left : List Run) (skipped : ℕ) : Type 0 where
  pub done : List Line
  pub passed : ArePassed files tap done left skipped
  pub written : Appends old new (line_text tap.name (Header Client Two) ++ 10 ∷ flat_map ended (drop 1 done))
  pub added : after ≡ before ++ map (λ (line : Line). line.number) done

-- what a part has of the taps before these was written, and the lines added that it comes from
pub record AreWritten (all left : List PartOfTap) (old new : Option (List ℕ)) (numbers : List ℕ) : Type 0 where
  pub done : List PartOfTap
  pub whole : done ++ left ≡ all
  pub written : Appends old new (text_of_parts done)
  pub added : numbers ≡ numbers_of_parts done
