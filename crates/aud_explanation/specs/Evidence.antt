-- The table of evidence.
use Rattle.std.specs.Prelude.{ℕ, max, List, [], ◌∷◌, ◌++◌, codes, decimal, flat_map, fold, length}
use Rattle.aud_verdict.specs.declared.verdict.Verdict.{Verdict}
use Rattle.aud_rows.specs.declared.row.Row.{Row}
use Rattle.aud_input.specs.declared.input_file.InputFile.{InputFile}
use Rattle.aud_input.specs.InputFiles.{place_told}
use Rattle.aud_explanation.specs.declared.name.Names.TheVariants.{Short}
use Rattle.aud_explanation.specs.Page.{laid_line, to_left, to_right}
use Rattle.aud_explanation.specs.Named.{named_words}
use Rattle.aud_explanation.specs.Record.{record_text, other_session}
use Rattle.aud_explanation.specs.Long.{first_shown, last_shown, more_line}
use Rattle.aud_explanation.specs.LongRows.{kept_rows, rows_left}
use Rattle.aud_explanation.specs.Mark.{mark}
use Rattle.aud_explanation.specs.Place.{place_text}

-- the width of the column of taps: that of the longest name, and 3 at least
abbrev pub tap_width : List Row → ℕ
tap_width rows = fold (λ width row. max width (length row.tap.now)) 3 rows

-- a row: the line, the tap, what the record says, of which session, where that isn't the one with this pid, and what it
-- is shown for
abbrev pub row_words : List ℕ → Verdict → ℕ → Row → List ℕ
row_words pid verdict width row = to_right 8 (decimal row.line) ++ codes " " ++ to_left width row.tap.now ++ codes "  " ++ record_text Short row.says ++ named_words Short (codes " of ") (other_session pid row.session) [] ++ mark row.role verdict

-- the same, and where the line stands, where there are several files
abbrev pub row_line : List InputFile → List ℕ → Verdict → ℕ → Row → List ℕ
row_line files pid verdict width row = row_words pid verdict width row ++ place_text (place_told files row.line)

-- its line, laid out
unfoldable pub row_text : List InputFile → List ℕ → Verdict → ℕ → Row → List ℕ
row_text files pid verdict width row = laid_line (row_line files pid verdict width row)

-- the heading of the table
abbrev pub heading_text : ℕ → List ℕ
heading_text width = laid_line (codes "    line " ++ to_left width (codes "tap") ++ codes "  record")

-- a line for each of these rows
abbrev pub rows_text : List InputFile → List ℕ → Verdict → ℕ → List Row → List ℕ
rows_text files pid verdict width rows = flat_map (row_text files pid verdict width) rows

-- the heading, a line for each row that is shown, and one that says how many are left out, before those that are kept
abbrev pub table_text : List InputFile → List ℕ → Verdict → List Row → List ℕ
table_text files pid verdict rows =
    heading_text (tap_width rows) ++ rows_text files pid verdict (tap_width rows) (first_shown rows) ++ more_line (rows_left rows)
    ++ rows_text files pid verdict (tap_width rows) (kept_rows rows) ++ rows_text files pid verdict (tap_width rows) (last_shown rows)

-- the table, where there are rows: those of the session with this pid
abbrev pub evidence_text : List InputFile → List ℕ → Verdict → List Row → List ℕ
evidence_text files pid verdict [] = []
evidence_text files pid verdict (row ∷ rows) = table_text files pid verdict (row ∷ rows)
