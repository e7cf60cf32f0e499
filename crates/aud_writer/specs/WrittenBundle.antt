-- The bytes of a bundle: its taps in their order, each its header and then its records, a line each.
use Rattle.std.specs.Prelude.{◌≡◌, ℕ, suc, ◌+◌, nat_lt, true, List, [], ◌∷◌, ◌++◌, length, map, Option, Some, None, option_map, position, Result, Ok, Err}
use Rattle.std.specs.List.{flat_map}
use Rattle.aud_tap.specs.declared.records.Rec.{Rec}
use Rattle.aud_tap.specs.declared.taps.Tap.{Tap}
use Rattle.aud_tap.specs.Limits.{max_line}
use Rattle.aud_tap.specs.TapName.{is_tap_name}
use Rattle.aud_tap.specs.WellFormed.{is_well_formed}
use Rattle.aud_reader.specs.declared.line.Line.{Line}
use Rattle.aud_reader.specs.Record.{line_record}
use Rattle.aud_reader.specs.declared.fault.ReadFault.{ReadFault}
use Rattle.aud_reader.specs.declared.fault.ReadFault.TheVariants.{Input}
use Rattle.aud_reader.specs.declared.fault.InputCode.TheVariants.{LineTooLong}
use Rattle.aud_reader.specs.Bundle.{taps_of}
use Rattle.aud_reader.specs.Lines.{lines_of}
use Rattle.aud_reader.specs.OwnLines.{recs_of}
use Rattle.aud_writer.specs.Written.{line_text}

-- records, each with the name of their tap
abbrev pub named : List ℕ → List Rec → List (List ℕ × Rec)
named name recs = map (λ rec. (name, rec)) recs

-- a tap's header, and then its records, each with the tap's name
abbrev pub named_recs : Tap → List (List ℕ × Rec)
named_recs t = named t.name (recs_of t)

-- those of the taps, in their order
abbrev pub recs_of_taps : List Tap → List (List ℕ × Rec)
recs_of_taps taps = flat_map named_recs taps

-- the line of each
abbrev pub line_texts : List (List ℕ × Rec) → List (List ℕ)
line_texts recs = map (λ r. line_text r.0 r.1) recs

-- the lines one after another, each ended by a newline
abbrev pub ended : List (List ℕ) → List ℕ
ended lines = flat_map (λ line. line ++ 10 ∷ []) lines

-- lines with these texts, of which the first has the number n
abbrev pub numbered : ℕ → List (List ℕ) → List Line
numbered n [] = []
numbered n (l ∷ ls) = record { number = n; bytes = l } ∷ numbered (n + 1) ls

-- the line of a record reads as it, where the name and the record have a bundle's forms
abbrev pub ReadsBack : List ℕ × Rec → Type 0
ReadsBack r = is_tap_name r.0 ≡ true → is_well_formed r.1 ≡ true → line_record (line_text r.0 r.1) ≡ Ok r

-- these bytes are read as these taps: none of their lines is refused for its length, and the taps of the lines are
-- these
pub record AreReadAs (bytes : List ℕ) (taps : List Tap) : Type 0 where
  pub whole : (lines_of bytes).fault ≡ None
  pub read : taps_of (lines_of bytes).lines ≡ Ok taps

-- the number, which counts from 1, of the first line that is too long
abbrev pub first_too_long : List (List ℕ) → Option ℕ
first_too_long lines = option_map suc (position (λ line. nat_lt max_line (length line)) lines)

-- the bytes, unless a line is too long
abbrev pub unless_too_long : Option ℕ → List ℕ → Result (List ℕ) ReadFault
unless_too_long None bytes = Ok bytes
unless_too_long (Some n) bytes = Err (Input n LineTooLong)

-- the bytes of a bundle, or the first line that is too long
abbrev pub written_bundle : List Tap → Result (List ℕ) ReadFault
written_bundle taps = unless_too_long (first_too_long (line_texts (recs_of_taps taps))) (ended (line_texts (recs_of_taps taps)))
