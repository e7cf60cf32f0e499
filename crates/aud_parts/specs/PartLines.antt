-- The lines of a part, as they are written: of each tap of the recording those that the part has of it.
use Rattle.std.specs.Prelude.{ℕ, suc, Bool, not, List, [], ◌∷◌, ◌++◌, count_by, drop, flat_map, Option, option_map, slice_get, unwrap_or, if◌then◌else◌}
use Rattle.std.specs.Option.{option_flatten}
use Rattle.aud_base.specs.Lists.{numbers_from}
use Rattle.aud_tap.specs.declared.records.Rec.TheVariants.{Header}
use Rattle.aud_tap.specs.declared.records.TapKind.{TapKind}
use Rattle.aud_tap.specs.declared.records.TapKind.TheVariants.{Client}
use Rattle.aud_tap.specs.declared.records.Version.TheVariants.{Two}
use Rattle.aud_writer.specs.Written.{line_text}
use Rattle.aud_parts.specs.declared.plan.Plan.{Plan}
use Rattle.aud_parts.specs.Plan.{has_client}
use Rattle.aud_parts.specs.ServersRead.{is_server, line_numbers}
use Rattle.aud_parts.specs.ServerTexts.{ServerTexts, lines_from, number_named, text_at}
use Rattle.aud_parts.specs.TapRuns.{TapRuns, ended, runs_lines}

-- what a part has of a tap: the text of its lines, and from which lines of the recording these come
pub record PartOfTap : Type 0 where
  pub text : List ℕ
  pub numbers : List ℕ

-- nothing of it
abbrev pub no_part : PartOfTap
no_part = record { text = []; numbers = [] }

-- of a tap of the stream or of a node, the lines that were made of it; nothing where there are none of its name
abbrev pub part_of_server : ServerTexts → List ℕ → PartOfTap
part_of_server servers name =
    unwrap_or (option_map (λ number. record { text = text_at servers number; numbers = lines_from servers number }) (number_named name servers)) no_part

-- of a client's tap, its header in version 2, and then its other lines as they stand in the files
abbrev pub part_of_client : List (List ℕ) → TapRuns → PartOfTap
part_of_client files tap = record {
  text = line_text tap.name (Header Client Two) ++ 10 ∷ flat_map ended (drop 1 (runs_lines files tap.runs));
  numbers = line_numbers files tap;
}

-- the tap at this place was put on the stream or on a node, by what each tap was put on
abbrev pub is_server_at : List (Option TapKind) → ℕ → Bool
is_server_at kinds place = is_server (option_flatten (slice_get kinds place))

-- a client's number is how many of the taps before this place are no tap of the stream or of a node
abbrev pub client_number : List (Option TapKind) → ℕ → ℕ
client_number kinds place = count_by (λ before. not (is_server_at kinds before)) (numbers_from 0 place)

-- what a part has of the tap at this place
abbrev pub part_of_tap : List (List ℕ) → ServerTexts → Plan → ℕ → List (Option TapKind) → ℕ → TapRuns → PartOfTap
part_of_tap files servers plan part kinds place tap =
    if is_server_at kinds place
    then part_of_server servers tap.name
    else (if has_client plan part (client_number kinds place) then part_of_client files tap else no_part)

-- of taps of which the first stands at this place
abbrev pub parts_from : List (List ℕ) → ServerTexts → Plan → ℕ → List (Option TapKind) → ℕ → List TapRuns → List PartOfTap
parts_from files servers plan part kinds place [] = []
parts_from files servers plan part kinds place (tap ∷ taps) =
    part_of_tap files servers plan part kinds place tap ∷ parts_from files servers plan part kinds (suc place) taps

-- of all taps, in their order
abbrev pub parts_of_taps : List (List ℕ) → ServerTexts → Plan → ℕ → List (Option TapKind) → List TapRuns → List PartOfTap
parts_of_taps files servers plan part kinds taps = parts_from files servers plan part kinds 0 taps

-- their text
abbrev pub text_of_parts : List PartOfTap → List ℕ
text_of_parts parts = flat_map (λ (p : PartOfTap). p.text) parts

-- from which lines of the recording their lines come
abbrev pub numbers_of_parts : List PartOfTap → List ℕ
numbers_of_parts parts = flat_map (λ (p : PartOfTap). p.numbers) parts
