-- Which lines aren't posted.
use Rattle.std.specs.Prelude.{ℕ, ◌+◌, List, length, nat_lt, nat_le, Option, Some, None, if◌then◌else◌}
use Rattle.aud_tap.specs.Limits.{max_line}
use Rattle.aud_reader.specs.Bundle.{max_records}
use Rattle.aud_reader.specs.Lines.{has_newline}
use Rattle.aud_book.specs.declared.fault.PostFault.{PostFault}
use Rattle.aud_book.specs.declared.fault.PostFault.TheVariants.{TooLong, Newline, Full}

-- the lines of a tap: its header, and its records
abbrev pub max_lines : ℕ
max_lines = 1 + max_records

-- the first reason for which a tap of this name, with so many lines, doesn't take a line; a blank stands after the name
abbrev pub refusal : List ℕ → ℕ → List ℕ → Option PostFault
refusal name held line =
    if nat_lt max_line (length name + 1 + length line) then Some TooLong
    else if has_newline line then Some Newline
    else if nat_le max_lines held then Some Full
    else None
