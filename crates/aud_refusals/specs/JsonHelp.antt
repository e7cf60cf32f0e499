-- Help on a line whose record is no JSON that is read.
use Rattle.std.specs.Prelude.{ℕ, ◌+◌, ◌==◌, List, [], ◌++◌, codes, decimal, length, find, reverse, not, Option, Some, None, if◌then◌else◌}
use Rattle.std.specs.Str.{is_utf8}
use Rattle.std.specs.Str.Lossy.{utf8_valid_len}
use Rattle.aud_reader.specs.Record.{cut_at_blank}
use Rattle.aud_refusals.specs.NoJson.{is_white, no_json, no_json_text}

-- ---- where a text begins and ends

-- the first byte that is no white space, and the last
abbrev pub first_byte : List ℕ → Option ℕ
first_byte text = find (λ b. not (is_white b)) text

abbrev pub last_byte : List ℕ → Option ℕ
last_byte text = find (λ b. not (is_white b)) (reverse text)

-- ---- the help

-- a text that begins with a brace and ends with one
abbrev pub inside_text : List ℕ → List ℕ
inside_text text = codes "What follows the first blank " ++ no_json_text (no_json text) ++ codes ".\n"

-- a text that begins with a brace, by its last byte
abbrev pub end_text : List ℕ → Option ℕ → List ℕ
end_text text None = []
end_text text (Some b) =
    if b == 125 then inside_text text
    else codes "This line does not end with }: its end may be missing.\n"

-- a text by its first byte
abbrev pub begin_text : List ℕ → Option ℕ → List ℕ
begin_text text None = codes "Nothing follows the first blank of this line.\n"
begin_text text (Some b) = if b == 123 then end_text text (last_byte text) else codes "What follows the first blank does not begin with {.\n"

-- a text that is UTF-8
abbrev pub text_help : List ℕ → List ℕ
text_help text = begin_text text (first_byte text)

-- bytes that are UTF-8 up to the byte of a line with this number, which counts from 1
abbrev pub utf8_text : ℕ → List ℕ
utf8_text at = codes "What follows the first blank is UTF-8 up to byte " ++ decimal at ++ codes " of this line, and not from there on.\n"

-- bytes after so many others
abbrev pub bytes_help : ℕ → List ℕ → List ℕ
bytes_help before text =
    if is_utf8 text then text_help text
    else utf8_text (before + utf8_valid_len text)

-- a line, cut at its first blank
abbrev pub cut_help : Option (List ℕ × List ℕ) → List ℕ
cut_help None = []
cut_help (Some parts) = bytes_help (length parts.0 + 1) parts.1

-- help on a line whose record is no JSON that is read
abbrev pub json_help : List ℕ → List ℕ
json_help line = cut_help (cut_at_blank line)
