-- A written line is cut at the blank that was written.
use Rattle.std.proofs.Common.{◌≡◌, ◌<◌, length-append, ◌==◌, ℕ, ◌+◌, List, [], ◌∷◌, ◌++◌, length, drop, nat_le, position, Some, true, false, Ok, refl, arith}
use Rattle.std.proofs.lemmas.Bool.Decides.{nat_tests}
use Rattle.std.proofs.Math.Seq.{take-append_seam, drop-append-add}
use Rattle.std.proofs.lemmas.Bool.{and_parts, lt-ltb}
use Rattle.std.specs.List.{list_all, position_or_len}
use Rattle.serde_json.specs.Written.{compact_text}
use Rattle.aud_tap.specs.declared.records.Rec.{Rec}
use Rattle.aud_tap.specs.Limits.{fits, max_name, max_line}
use Rattle.aud_tap.specs.TapName.{is_name_byte, is_tap_name}
use Rattle.aud_reader.specs.Record.{cut_at_blank, json_of, opened_line, line_record}
use Rattle.aud_tap.specs.WellFormed.{is_well_formed}
use Rattle.aud_writer.specs.Written.{record_data, line_text}
use Rattle.aud_writer.specs.BytesBack.{DecodeBack, blobs_of}
use Rattle.aud_writer.proofs.WrittenBack.{record-back}

-- no byte of a tap's name is the blank
no_blank : (b : ℕ) → is_name_byte b ≡ true → (b == 32) ≡ false
no_blank b h = grind (arith, nat_tests)

-- the first blank of a written line comes right after the name
blank_index : (name text : List ℕ) → list_all is_name_byte name ≡ true → position_or_len (λ b. b == 32) (name ++ 32 ∷ text) ≡ length name
blank_index [] text h = refl
blank_index (b ∷ name) text h =
    let parts = and_parts (is_name_byte b) (list_all is_name_byte name) h in
    rw (no_blank b parts.0, blank_index name text parts.1) (omega arith)

-- the line is cut at that blank
blank-at : (name text : List ℕ) → list_all is_name_byte name ≡ true → position (λ b. b == 32) (name ++ 32 ∷ text) ≡ Some (length name)
blank-at name text h =
    let within : length name < length (name ++ 32 ∷ text) = rw (length-append name (32 ∷ text)) (omega arith) in
    rw (blank_index name text h, lt-ltb (length name) (length (name ++ 32 ∷ text)) within) refl

-- what follows the blank is the record's text
after-blank : (name text : List ℕ) → drop (length name + 1) (name ++ 32 ∷ text) ≡ text
after-blank name text = drop-append-add name (32 ∷ text) 1

-- a written line is cut into the tap's name and the record's text
cut-written : (name text : List ℕ) → is_tap_name name ≡ true → cut_at_blank (name ++ 32 ∷ text) ≡ Some (name, text)
cut-written name text h = rw (blank-at name text (and_parts (fits max_name name) (list_all is_name_byte name) h).1, take-append_seam name (32 ∷ text), after-blank name text) refl

-- a written line reads as its tap's name and its record
pub line-back : (name : List ℕ) (rec : Rec) → is_tap_name name ≡ true → is_well_formed rec ≡ true → nat_le (length (line_text name rec)) max_line ≡ true
    → json_of (compact_text (record_data rec)) ≡ Ok (record_data rec) → DecodeBack (blobs_of rec) → line_record (line_text name rec) ≡ Ok (name, rec)
unfolding line_record opened_line
line-back name rec named formed fit json back = rw (fit, cut-written name (compact_text (record_data rec)) named, named, json, record-back rec formed back) refl
