-- The text of a bundle, while it is written.
use Rattle.std.specs.Prelude.{ℕ, ◌&&◌, nat_le, List, [], ◌∷◌, ◌++◌, length, Bool, true, false, if◌then◌else◌}
use Rattle.aud_tap.specs.declared.records.Rec.{Rec}
use Rattle.aud_tap.specs.declared.records.Rec.TheVariants.{Node}
use Rattle.aud_tap.specs.Limits.{max_line}
use Rattle.aud_tap.specs.TapName.{is_tap_name}
use Rattle.aud_tap.specs.WellFormed.{is_well_formed}
use Rattle.aud_writer.specs.Written.{line_text}
use Rattle.aud_sim.specs.declared.bundle.LogFault.{LogFault}
use Rattle.aud_sim.specs.declared.bundle.LogFault.TheVariants.{Nothing, LoseLine, RepeatLine}

-- the lines so far, each with its newline, whether each that was to be written could be a bundle's, and the fault that
-- waits for the next line of a node's log
pub record Lines : Type 0 where
  pub text : List ℕ
  pub is_whole : Bool
  pub fault : LogFault

-- no line, and no fault
abbrev pub no_lines : Lines
no_lines = record { text = []; is_whole = true; fault = Nothing }

-- no fault waits
abbrev pub is_sound : LogFault → Bool
is_sound Nothing = true
is_sound fault = false

-- this fault waits
abbrev pub with_log_fault : LogFault → Lines → Lines
with_log_fault fault lines = record lines { fault = fault }

-- the line of this record, of the tap of this name, can be a bundle's: name and fields have a bundle's forms and
-- limits, and the line is not too long
abbrev pub can_be_line : List ℕ → Rec → Bool
can_be_line name rec = is_tap_name name && is_well_formed rec && nat_le (length (line_text name rec)) max_line

-- a line more, of this text
abbrev pub with_text : List ℕ → Lines → Lines
with_text line lines = record lines { text = lines.text ++ line ++ 10 ∷ [] }

-- a line of a node's log with this fault: it is written, is not written, or is written twice
abbrev pub with_text_by : LogFault → List ℕ → Lines → Lines
with_text_by Nothing line lines = with_text line lines
with_text_by LoseLine line lines = lines
with_text_by RepeatLine line lines = with_text line (with_text line lines)

-- the line of a record; of a node's by the fault that waits, which waits no longer
abbrev pub with_text_of : Rec → List ℕ → Lines → Lines
with_text_of (Node record_of_node) line lines = with_text_by lines.fault line (with_log_fault Nothing lines)
with_text_of rec line lines = with_text line lines

-- the lines with that of a record
abbrev pub with_line : List ℕ → Rec → Lines → Lines
with_line name rec lines =
    if can_be_line name rec
    then with_text_of rec (line_text name rec) lines
    else record lines { is_whole = false }
